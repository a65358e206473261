-- `slots::put_word` meets its contract. The loop's invariant: the first i bytes are in the word's slots, and the other words' slots are as they were.
use Rattle.std.proofs.Common.{arith, ◌∙◌}
use Rattle.interleave.specs.Slots.{in_slots, placed_more}
use Rattle.interleave.proofs.slots.put_word.Goals as goal

pub loop-i-preserved : goal.loop-i-preserved
loop-i-preserved c =
    (omega arith, placed_more _ _ _ _ _ _ c.requires.turn (in_slots c.loop-i.i _ _ _ _ (omega arith) c.requires.turn (c.loop-i.invariant.1.size ∙ c.requires.size)) c.loop-i.invariant.1)
