-- `put_word` meets its contract: the word's number, its three figures and the line's end.
use native.Mathlib.Omega.{arith}
use Rattle.text.specs.Page.{writes_end}
use Rattle.reader.specs.Lines.Laws.{put_figures}
use Rattle.reader.proofs.lines.put_word.Goals as goal

pub returns : goal.returns
returns c = record {
  whole =
      put_figures _ _
      c.put_named.ensures.whole
      (rw c.from.ensures at c.put_named-2.ensures.whole)
      (rw c.from-2.ensures at c.put_named-3.ensures.whole)
      (rw c.from-3.ensures at c.put_named-4.ensures.whole)
      c.put_byte.ensures;
  within = omega (arith, c.put_named.ensures.within, c.put_named-2.ensures.within, c.put_named-3.ensures.within, c.put_named-4.ensures.within, writes_end c.put_byte.ensures);
}
