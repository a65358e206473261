-- `move_rows` meets its contract. The invariants: the rows before `row` are in their columns; of the K rows from it on the bytes below i are, and
-- byte i of the first k.
use Rattle.interleave.proofs.Rows.{Moving}
use Rattle.interleave.proofs.block.move_rows.Given as goal

abbrev pub invariant-loop-i : goal.invariant-loop-i
invariant-loop-i g l = Moving l.m l.n l.row g.row.K l.i 0 l.source l.target

abbrev pub invariant-loop-k : goal.invariant-loop-k
invariant-loop-k g l = Moving l.m l.n l.row g.row.K l.i l.k l.source l.target
