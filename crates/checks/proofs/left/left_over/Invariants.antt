-- `checks::left::left_over` meets its contract. The invariant: the first i sums stand.
use Rattle.algebra.specs.Lists.{Filled}
use Rattle.checks.specs.Left.{left_at}
use Rattle.checks.proofs.left.left_over.Given as goal

abbrev pub invariant-loop-i : goal.invariant-loop-i
invariant-loop-i l = Filled 16 (left_at l.checks l.received) l.i l.rest
