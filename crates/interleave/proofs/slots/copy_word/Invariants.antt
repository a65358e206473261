-- `slots::copy_word` meets its contract. The loop's invariant: the first i bytes of the word are those of its slots.
use lib.ListN.{length}
use Rattle.algebra.specs.Lists.{Copying}
use Rattle.interleave.specs.Slots.{slot_byte}
use Rattle.interleave.proofs.slots.copy_word.Given as goal

abbrev pub invariant-loop-i : goal.invariant-loop-i
invariant-loop-i l = Copying (length l.initial.word) (slot_byte l.depth l.w l.slots) l.i l.word
