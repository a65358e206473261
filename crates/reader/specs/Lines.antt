-- Document 01, "Worked table", and document 02, No. 6: the lines that the bench reader prints of an accepted frame.
-- Assumes nothing.
use Rattle.std.specs.Prelude.{Bool, List, [], ◌∷◌, ◌++◌, ℕ, eqb, length, get_or, if◌then◌else◌}
use Rattle.word.specs.Answers.{no_figures}
use Rattle.word.specs.declared.Figures.{Figures}
use Rattle.algebra.specs.Lists.{joined}
use Rattle.algebra.specs.Tests.{at}
use Rattle.text.specs.Text.{bytes, decimal, named, hexes}
pub mod Laws
pub mod Slots

abbrev pub newline : List ℕ
newline = bytes "\n"

-- sequence number and payload length
unfoldable pub first_line : ℕ → ℕ → List ℕ
first_line sequence size = named (bytes "frame ") sequence ++ named (bytes " payload ") size ++ newline

-- a word's number, e, f and bits
unfoldable pub word_line : ℕ → Figures → List ℕ
word_line w f =
    named (bytes "word ") w ++ named (bytes " errors ") f.errors ++ named (bytes " marked ") f.marked ++ named (bytes " bits ") f.bits ++ newline

unfoldable pub word_lines : ℕ → List Figures → List ℕ
word_lines depth figures = joined depth λ w. word_line w (get_or figures w no_figures)

-- the slots below n that were changed, in rising order: the map has a mark for each slot, 0 where it was not
unfoldable pub changed_below : ℕ → List ℕ → List ℕ
changed_below n map = joined n λ i. if eqb (at map i) 0 then [] else i ∷ []

-- numbers in decimal, each with a blank before it
unfoldable pub blanked : List ℕ → List ℕ
blanked [] = []
blanked (n ∷ l) = bytes " " ++ decimal n ++ blanked l

-- numbers in decimal, one blank between
unfoldable pub spaced : List ℕ → List ℕ
spaced [] = []
spaced (n ∷ l) = decimal n ++ blanked l

-- the numbers of all slots that were changed
unfoldable pub slots_line : List ℕ → List ℕ
slots_line map = spaced (changed_below (length map) map) ++ newline

-- the first line, a line for each word, the payload, and the slots that were changed
unfoldable pub frame_text : ℕ → ℕ → List Figures → List ℕ → List ℕ → List ℕ
frame_text depth sequence figures payload map = first_line sequence (length payload) ++ word_lines depth figures ++ hexes payload ++ newline ++ slots_line map

-- what one slot adds to the line, where the first number has no blank
unfoldable pub slot_text : ℕ → Bool → ℕ → List ℕ
slot_text mark first slot = if eqb mark 0 then [] else if first then decimal slot else bytes " " ++ decimal slot
