-- `copy` meets its contract. The loop's invariant: the first i bytes of the target are those of the source.
use lib.ListN.{length}
use Rattle.algebra.specs.Tests.{at}
use Rattle.algebra.specs.Lists.{Filled}
use Rattle.buffers.proofs.copy.Given as goal

abbrev pub invariant-loop-i : goal.invariant-loop-i
invariant-loop-i l = Filled (length l.initial.target) (at l.source) l.i l.target
