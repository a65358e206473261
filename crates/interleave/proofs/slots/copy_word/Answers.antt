-- `slots::copy_word` meets its contract. The loop's invariant: the first i bytes of the word are those of its slots.
use Rattle.std.proofs.Common.{arith}
use Rattle.algebra.specs.Lists.{copying_all}
use Rattle.interleave.proofs.slots.copy_word.Goals as goal

pub returns : goal.returns
returns c = copying_all _ _ _ _ (omega (arith, c.loop-i.invariant.filled.size)) c.loop-i.invariant
