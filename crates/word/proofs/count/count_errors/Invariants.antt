-- `count::count_errors` meets its contract. The loop's invariant: `e` is the sum over the places before `i`, each at most 1.
use mathlib.Core.Path.{◌≡◌}
use Prim.Native.Nat.{◌≤◌}
use lib.ListN.{length}
use Rattle.algebra.specs.Tests.{total}
use Rattle.word.specs.Figures.{error_at}
use Rattle.word.proofs.count.count_errors.Given as goal

abbrev pub invariant-loop-i : goal.invariant-loop-i
invariant-loop-i l = (l.i ≤ length l.received) × (l.e ≤ l.i) × (l.e ≡ total l.i (error_at l.marks l.received l.word))
