-- `decoder::locate::Places::of` meets its contract. The loop's invariant: the places from `i` on have their locators, and `x` is that of the place before
-- them.
use mathlib.Core.Path.{◌≡◌}
use Prim.Native.Nat.{◌-◌, ◌≤◌}
use Rattle.decoder.specs.Places.{locator}
use Rattle.decoder.specs.Candidates.{Backed}
use Rattle.decoder.proofs.locate.Places.of.Given as goal

abbrev pub invariant-loop-i : goal.invariant-loop-i
invariant-loop-i l = (l.i ≤ l.n) × (l.x ≡ locator l.m (l.n - l.i)) × Backed l.m l.n l.i l.locators
