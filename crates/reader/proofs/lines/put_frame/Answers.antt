-- `put_frame` meets its contract: the first line, the words' lines, the payload, its line's end and the changed slots.
use Rattle.reader.specs.Lines.Laws.{put_accepted}
use Rattle.reader.proofs.lines.put_frame.Goals as goal

pub returns : goal.returns
returns c =
    put_accepted _ _ _ _ _ c.put_first.ensures.whole c.put_words.ensures.whole c.put_hexes.ensures.whole c.put_byte.ensures c.put_slots.ensures.whole
