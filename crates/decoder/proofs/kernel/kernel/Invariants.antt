-- `decoder::kernel::kernel` meets its contract: of t + 1 vectors at most t die, so one is alive after t windows, and it is orthogonal to all of them. The
-- invariant: each vector alive is orthogonal to the first j windows, and at most j have died.
use Rattle.decoder.specs.Elimination.{Eliminated}
use Rattle.decoder.proofs.kernel.kernel.Given as goal

abbrev pub invariant-loop-j : goal.invariant-loop-j
invariant-loop-j l = Eliminated l.m l.d l.long l.j l.vectors.rows l.vectors.alive
