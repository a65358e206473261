-- `decoder::kernel::Vectors::clear` meets its contract: a vector alive behind the pivot takes in so much of it that the two products with the window
-- cancel. The invariant: the vectors before s are orthogonal to the window too, and the pivot is as it was.
use Rattle.decoder.specs.Elimination.{Clearing}
use Rattle.decoder.proofs.kernel.Vectors.clear.Given as goal

abbrev pub invariant-loop-s : goal.invariant-loop-s
invariant-loop-s l = let w = l.window in Clearing w.m w.d w.sums.now w.j l.p l.x l.s l.self.rows l.self.alive
