-- `fill_message` meets its contract. The loop's invariant: the first i bytes of the message are the area's from `start` on.
use native.Mathlib.Omega.{arith}
use Rattle.algebra.specs.Lists.{copying_all}
use Rattle.frame.proofs.trailer.fill_message.Goals as goal

pub returns : goal.returns
returns c = copying_all _ _ _ _ (omega (arith, c.loop-i.invariant.filled.size)) c.loop-i.invariant
