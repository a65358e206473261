-- `decoder::kernel::Vectors::pivot` meets its contract: it stops at the first vector alive whose product with the window does not count as zero. The
-- invariant: every vector alive that was passed is orthogonal to the window.
use Rattle.decoder.specs.Elimination.{Passed}
use Rattle.decoder.proofs.kernel.Vectors.pivot.Given as goal

abbrev pub invariant-loop-s : goal.invariant-loop-s
invariant-loop-s l = let w = l.window in Passed w.m w.d w.sums.now w.j l.self.rows l.self.alive l.s
