-- `slots::put_word` meets its contract. The loop's invariant: the first i bytes are in the word's slots, and the other words' slots are as they were.
use Prim.Native.Nat.{◌≤◌}
use lib.ListN.{length}
use Rattle.interleave.specs.Slots.{Placed}
use Rattle.interleave.proofs.slots.put_word.Given as goal

abbrev pub invariant-loop-i : goal.invariant-loop-i
invariant-loop-i l = (l.i ≤ length l.word) × Placed l.depth l.w l.word l.initial.slots l.i l.slots
