-- The lines of the text from their pieces, in the order in which they are written.
-- Assumes nothing.
use Rattle.std.specs.Prelude.{List, ℕ, ◌+◌, ◌*◌, ◌≤◌, length, get_or}
use Rattle.std.proofs.Common.{arith}
use Rattle.word.specs.Answers.{no_figures}
use Rattle.word.specs.declared.Figures.{Figures}
use Rattle.algebra.specs.Lists.{joined, joined_more}
use Rattle.text.specs.Text.{bytes, named, hexes}
use Rattle.text.specs.Page.{Writes, WritesWithin, writes_none, writes_then}
use Rattle.text.specs.declared.Page.{Page}
use Rattle.reader.specs.Lines.{newline, first_line, word_line, word_lines, slots_line, frame_text}

module _ {before p₁ p₂ after : Page} where
  pub put_opening : (sequence size : ℕ) → Writes (named (bytes "frame ") sequence) before p₁ → Writes (named (bytes " payload ") size) p₁ p₂
      → Writes newline p₂ after → Writes (first_line sequence size) before after
  unfolding first_line
  put_opening sequence size p q r = writes_then (writes_then p q) r

module _ {before p₁ p₂ p₃ p₄ after : Page} where
  pub put_accepted : (depth sequence : ℕ) (figures : List Figures) (payload map : List ℕ) → Writes (first_line sequence (length payload)) before p₁
      → Writes (word_lines depth figures) p₁ p₂ → Writes (hexes payload) p₂ p₃ → Writes newline p₃ p₄ → Writes (slots_line map) p₄ after
      → Writes (frame_text depth sequence figures payload map) before after
  unfolding frame_text
  put_accepted depth sequence figures payload map p q r s u = writes_then (writes_then (writes_then (writes_then p q) r) s) u

  pub put_figures : (w : ℕ) (own : Figures) → Writes (named (bytes "word ") w) before p₁ → Writes (named (bytes " errors ") own.errors) p₁ p₂
      → Writes (named (bytes " marked ") own.marked) p₂ p₃ → Writes (named (bytes " bits ") own.bits) p₃ p₄ → Writes newline p₄ after
      → Writes (word_line w own) before after
  unfolding word_line
  put_figures w own p q r s u = writes_then (writes_then (writes_then (writes_then p q) r) s) u

-- the words one after the other, and that each has its bound of bytes
module _ (figures : List Figures) where
  pub words_begun : (page : Page) → page.end ≤ length page.text.now → Writes (word_lines 0 figures) page page
  unfolding word_lines joined
  words_begun page room = writes_none page room

  pub words_begun_within : (page : Page) → page.end ≤ length page.text.now → WritesWithin (48 * 0) (word_lines 0 figures) page page
  words_begun_within page room = record { whole = words_begun page room; within = omega arith }

  module _ (w : ℕ) {before between after : Page} where
    pub words_on : Writes (word_lines w figures) before between → Writes (word_line w (get_or figures w no_figures)) between after
        → Writes (word_lines (w + 1) figures) before after
    unfolding word_lines
    words_on p q = rw joined_more (writes_then p q)

    pub words_on_within : WritesWithin (48 * w) (word_lines w figures) before between
        → WritesWithin 48 (word_line w (get_or figures w no_figures)) between after → WritesWithin (48 * (w + 1)) (word_lines (w + 1) figures) before after
    words_on_within p q = record { whole = words_on p.whole q.whole; within = omega (arith, p.within, q.within) }
