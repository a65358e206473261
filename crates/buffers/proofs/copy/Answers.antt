-- `copy` meets its contract. The loop's invariant: the first i bytes of the target are those of the source.
use native.Mathlib.Omega.{arith}
use Rattle.algebra.specs.Lists.{filled_front}
use Rattle.buffers.proofs.copy.Goals as goal

pub returns : goal.returns
returns c = filled_front _ _ _ _ (omega (arith, c.loop-i.invariant.size)) c.requires c.loop-i.invariant
