-- `move_rows` meets its contract. The invariants: the rows before `row` are in their columns; of the K rows from it on the bytes below i are, and
-- byte i of the first k.
use Rattle.interleave.proofs.Rows.{moving_none, moving_more, moving_next, moving_all}
use Rattle.interleave.proofs.block.move_rows.Goals as goal

pub loop-i-init : goal.loop-i-init
loop-i-init g c = moving_none _ _ _ _ _ _ c.requires.2

pub loop-k-preserved : goal.loop-k-preserved
loop-k-preserved g c = moving_more _ _ _ _ _ _ _ _ c.requires.0 c.loop-i-test.true c.loop-k-test.true c.loop-k.invariant

pub loop-i-preserved : goal.loop-i-preserved
loop-i-preserved g c = moving_next _ _ _ _ _ _ _ _ c.loop-k-test.false c.loop-k.invariant

pub returns : goal.returns
returns g c = moving_all _ _ _ _ _ _ _ c.requires.0 c.loop-i-test.false c.loop-i.invariant
