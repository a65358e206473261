-- `put_first` meets its contract: the sequence number, the payload's length and the line's end.
use native.Mathlib.Omega.{arith}
use Rattle.text.specs.Page.{writes_end}
use Rattle.reader.specs.Lines.Laws.{put_opening}
use Rattle.reader.proofs.lines.put_first.Goals as goal

pub returns : goal.returns
returns c = record {
  whole = put_opening _ _ (rw c.from.ensures at c.put_named.ensures.whole) c.put_named-2.ensures.whole c.put_byte.ensures;
  within = omega (arith, c.put_named.ensures.within, c.put_named-2.ensures.within, writes_end c.put_byte.ensures);
}
