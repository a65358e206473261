-- The lines of the words before this one are written, of at most 48 bytes each.
use Prim.Native.Nat.{◌*◌}
use Rattle.text.specs.Page.{WritesWithin}
use Rattle.reader.specs.Lines.{word_lines}
use Rattle.reader.proofs.lines.put_words.Given as goal

abbrev pub invariant-loop-w : goal.invariant-loop-w
invariant-loop-w l = WritesWithin (48 * l.w) (word_lines l.w l.figures) l.initial.page l.page
