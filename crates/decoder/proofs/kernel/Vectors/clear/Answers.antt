-- `decoder::kernel::Vectors::clear` meets its contract: a vector alive behind the pivot takes in so much of it that the two products with the window
-- cancel. The invariant: the vectors before s are orthogonal to the window too, and the pivot is as it was.
use native.Mathlib.Omega.{arith}
use Rattle.decoder.specs.Elimination.{dead, clearing_dead, clearing_more}
use Rattle.decoder.proofs.kernel.Vectors.clear.Goals as goal
use Rattle.decoder.proofs.kernel.Vectors.clear.Goals.{then-self-s, else-self-s}

pub loop-s-preserved : goal.loop-s-preserved
loop-s-preserved c =
    let o = c.loop-s in
    elim c.if-self-s.branch [
      | then-self-s w ↦ rw w.self-is (clearing_more o.invariant (omega arith) (omega arith) w.if-self-s.true w.dot-y.ensures w.combine.ensures)
      | else-self-s w ↦ rw w.self-is (clearing_dead o.invariant (dead w.if-self-s.false))
    ]
