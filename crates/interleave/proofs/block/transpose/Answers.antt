-- `transpose` meets its contract. The invariant: the rows before `row` are in their columns.
use Rattle.interleave.proofs.Rows.{rows_all}
use Rattle.interleave.proofs.block.transpose.Goals as goal

pub returns : goal.returns
returns c = rows_all _ _ _ _ _ c.requires.0 c.loop-row-test.false c.loop-row.invariant
