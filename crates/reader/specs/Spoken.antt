-- Document 01, "Worked table": what the bench reader prints, for every input.
-- Assumes nothing.
use Rattle.std.specs.Prelude.{List, ℕ, ltb, eqb, length, drop, replicate, if◌then◌else◌}
use Rattle.algebra.specs.Tests.{at}
use Rattle.frame.specs.Frame.{slot_count, area_size, ReceiveOutcome, receiving}
use Rattle.frame.specs.declared.setting.Framing.{Framing}
use Rattle.text.specs.Text.{refusal}
use Rattle.reader.specs.Head.{framing_of}
use Rattle.reader.specs.Lines.{frame_text}
pub mod Answers
pub mod Decides

unfoldable pub blank : ℕ → List ℕ
blank n = replicate n 0

-- the frame as it is received: its slots unmarked, into a fresh area and a fresh map
unfoldable pub answer_to : Framing → List ℕ → ReceiveOutcome
answer_to f slots = receiving f slots (blank (slot_count f)) (blank (area_size f)) (blank (slot_count f))

-- what is said of an answer
unfoldable pub told : ℕ → ReceiveOutcome → List ℕ
told depth o = if eqb o.number 0 then frame_text depth o.sequence o.figures o.payload o.map else refusal o.number

-- the whole text; under four bytes is 2 at once
unfoldable pub spoken : List ℕ → List ℕ
spoken input = if ltb (length input) 4 then refusal 2 else told (at input 0) (answer_to (framing_of input) (drop 4 input))
