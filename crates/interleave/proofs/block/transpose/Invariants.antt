-- `transpose` meets its contract. The invariant: the rows before `row` are in their columns.
use Prim.Native.Nat.{◌-◌}
use Rattle.interleave.specs.Rows.{RowsMoved}
use Rattle.interleave.proofs.block.transpose.Given as goal

abbrev pub invariant-loop-row : goal.invariant-loop-row
invariant-loop-row l = RowsMoved l.m l.n l.row l.source l.target

abbrev pub decreases-loop-row : goal.decreases-loop-row
decreases-loop-row l = l.m - l.row
