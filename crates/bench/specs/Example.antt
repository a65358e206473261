-- Document 01, "Worked table": the bench reader's example, byte for byte.
-- Assumes nothing.
use Rattle.std.specs.Prelude.{◌≡◌, List, [], ◌∷◌, ◌++◌, ℕ, length, drop}
use Rattle.std.proofs.Common.{ap}
use Rattle.frame.specs.FrameExample.{received_example}
use Rattle.algebra.specs.Lists.{joined}
use Rattle.text.specs.Text.{bytes, digits, decimal, named, hex_digit, hex, hexes}
use Rattle.reader.specs.Lines.{first_line, word_line, word_lines, changed_below, blanked, spaced, slots_line, frame_text}
use Rattle.reader.specs.Spoken.{blank, answer_to, told, spoken}
use Rattle.reader.specs.Promises.{ReportOutcome, reporting, Reports}

abbrev input : List ℕ
input = 2 ∷ 5 ∷ 2 ∷ 0 ∷ 0 ∷ 0 ∷ 0 ∷ 0 ∷ 1 ∷ 1 ∷ 217 ∷ 13 ∷ 153 ∷ 14 ∷ []

abbrev printed : List ℕ
printed = bytes "frame 258 payload 1\nword 0 errors 1 marked 0 bits 2\nword 1 errors 1 marked 0 bits 1\n41\n2 3\n"

spoken_example : spoken input ≡ printed
unfolding spoken answer_to blank told frame_text first_line word_lines word_line slots_line changed_below spaced blanked named joined decimal digits hexes hex hex_digit
spoken_example = rw received_example

-- whatever keeps the promise of `report` says so
pub report_example : (text : List ℕ) (count : ℕ) (left : List ℕ) → Reports input text count left → (count ≡ length printed) × (left ≡ printed ++ drop (length printed) text)
unfolding reporting
report_example text count left p =
    let same = rw spoken_example at p.outcome in
    (ap (λ (o : ReportOutcome). o.count) same, ap (λ (o : ReportOutcome). o.text) same)
