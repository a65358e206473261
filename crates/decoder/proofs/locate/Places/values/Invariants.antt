-- `decoder::locate::Places::values` meets its contract. The loop's invariant: the coefficients from l up are
-- summed at each of the points.
use Prim.Native.Nat.{◌≤◌}
use Rattle.decoder.specs.Candidates.{Uppers}
use Rattle.decoder.proofs.locate.Places.values.Given as goal

abbrev pub invariant-loop-l : goal.invariant-loop-l
invariant-loop-l l = (l.l ≤ l.d) × Uppers l.self.m l.d l.v l.self.n l.self.locators l.l l.sums
