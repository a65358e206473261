-- `count::count_marks` meets its contract. The loop's invariant: `f` is the sum of the marks before the index, each at most 1.
use mathlib.Core.Path.{◌≡◌}
use Prim.Native.Nat.{◌≤◌}
use Rattle.algebra.specs.Tests.{at, total}
use Rattle.word.proofs.count.count_marks.Given as goal

abbrev pub invariant-loop-mark : goal.invariant-loop-mark
invariant-loop-mark l = (l.f ≤ l.mark-index) × (l.f ≡ total l.mark-index (at l.marks))
