-- Document 02, No. 1, "Two masts": which of two copies of a frame is handed back, and what the calls on both answer and leave, for every input.
-- Assumes nothing.
use Rattle.std.specs.Prelude.{◌≡◌, not, Option, Some, None, Result, Ok, Err, List, [], ◌∷◌, ℕ, ◌+◌, ◌*◌, leb, eqb, get_or, if◌then◌else◌}
use Rattle.algebra.specs.Tests.{total}
use Rattle.algebra.specs.Refusal.{if_zero}
use Rattle.word.specs.Answers.{no_figures}
use Rattle.word.specs.declared.Figures.{Figures}
use Rattle.frame.specs.Frame.{ReceiveOutcome, receive_outcome, refused_frame, receiving, error_number, error_word, no_numbers, payload_of}
use Rattle.frame.specs.declared.setting.Framing.{Framing}
use Rattle.frame.specs.declared.setting.ReceiveError.{ReceiveError}
use Rattle.frame.specs.declared.setting.Received.{Received}
use Rattle.record.specs.Record.{noted}
use Rattle.record.specs.declared.Record.{Record}
use Rattle.link.specs.declared.choice.Mast.{Mast}
use Rattle.link.specs.declared.choice.Mast.TheVariants.{First, Second}
use Rattle.link.specs.declared.choice.Chosen.{Chosen}
use Rattle.link.specs.declared.choice.MastsError.{MastsError}
use Rattle.link.specs.declared.choice.MastsError.TheVariants.{Refused, Differ}
pub mod Laws

-- ---- two copies

-- a copy of a frame: its slots with their marks, and the area and the map that are lent for it
pub record Copy : Type 0 where
  pub slots : List ℕ
  pub marks : List ℕ
  pub area : List ℕ
  pub map : List ℕ

abbrev pub copy_of : (slots marks area map : List ℕ) → Copy
copy_of slots marks area map = record { slots = slots; marks = marks; area = area; map = map }

-- what its own call answers and leaves
abbrev pub alone : Framing → Copy → ReceiveOutcome
alone f c = receiving f c.slots c.marks c.area c.map

-- what is left for a copy: its area and its map
pub record Left : Type 0 where
  pub area : List ℕ
  pub map : List ℕ

abbrev pub left_of : (area map : List ℕ) → Left
left_of area map = record { area = area; map = map }

abbrev pub left_by : ReceiveOutcome → Left
left_by o = left_of o.area o.map

-- 2e + f, summed over a copy's words; words past J have no figures
abbrev pub damage_of : Figures → ℕ
damage_of found = 2 * found.errors + found.marked

abbrev pub damage_at : List Figures → ℕ → ℕ
damage_at figures w = damage_of (get_or figures w no_figures)

unfoldable pub damage : List Figures → ℕ
damage figures = total 16 (damage_at figures)

-- ---- which is handed back

-- the mast that is used, if one is, what is answered, what is left for the two copies, and the payload as a part of one area
pub record MastsOutcome : Type 0 where
  pub mast : Option Mast
  pub number : ℕ
  pub word : ℕ
  pub sequence : ℕ
  pub back : ℕ
  pub figures : List Figures
  pub first : Left
  pub second : Left
  pub payload : List ℕ

module _ (a b : ReceiveOutcome) where
  -- one copy's answer is handed back, and each area and map is left as its own call leaves it
  abbrev pub giving : Option Mast → ReceiveOutcome → MastsOutcome
  giving mast o =
      record { mast = mast; number = o.number; word = o.word; sequence = o.sequence; back = o.back; figures = o.figures; first = left_by a; second = left_by b; payload = o.payload }

  -- both accepted: 8 where they are two frames, else the one that took less damage, the first on a tie
  unfoldable pub both_accepted : MastsOutcome
  both_accepted =
      if not (eqb a.sequence b.sequence) then giving None (refused_frame 8 0 [] []) else
      if leb (damage a.figures) (damage b.figures) then giving (Some First) a else
      giving (Some Second) b

  -- one refused: the other; both refused: the first's refusal
  unfoldable pub choosing : MastsOutcome
  choosing = if_zero a.number (if_zero b.number both_accepted (giving (Some First) a)) (if_zero b.number (giving (Some Second) b) (giving None a))

-- ---- the calls

-- both copies are decoded, each as its own call does
unfoldable pub receiving_masts : Framing → (first second : Copy) → MastsOutcome
receiving_masts f first second = choosing (alone f first) (alone f second)

-- what hearing both answers and leaves: the answer with what is left, and the record after it
pub record HearMastsOutcome : Type 0 where
  pub frame : MastsOutcome
  pub next : Record

-- the number and sequence number that are handed back are noted, once
unfoldable pub hearing_masts : Record → Framing → (first second : Copy) → HearMastsOutcome
hearing_masts before f first second =
    let o = receiving_masts f first second in
    record { frame = o; next = noted before o.number o.sequence }

-- both whole areas and the payload, as one call hands them back
abbrev pub handed_back_masts : MastsOutcome → List (List ℕ)
handed_back_masts o = o.first.area ∷ o.second.area ∷ o.payload ∷ []

-- ---- the code's answer in these terms

-- the number of an answer, and the word that it names
abbrev pub masts_number : Result Chosen MastsError → ℕ
masts_number (Ok c) = 0
masts_number (Err (Refused e)) = error_number e
masts_number (Err Differ) = 8

abbrev pub masts_word : Result Chosen MastsError → ℕ
masts_word (Ok c) = 0
masts_word (Err (Refused e)) = error_word e
masts_word (Err Differ) = 0

-- the mast that is used, and its copy's numbers; where neither is, there are none
abbrev pub mast_of : Result Chosen MastsError → Option Mast
mast_of (Ok c) = Some c.mast
mast_of (Err e) = None

abbrev pub chosen_of : Result Chosen MastsError → Received
chosen_of (Ok c) = c.copy
chosen_of (Err e) = no_numbers

-- the part of the area of that mast that is handed back
abbrev pub payload_by : Mast → Received → (first second : List ℕ) → List ℕ
payload_by First copy first second = payload_of (Ok copy) first
payload_by Second copy first second = payload_of (Ok copy) second

abbrev pub payload_of_used : Result Chosen MastsError → (first second : List ℕ) → List ℕ
payload_of_used (Ok c) first second = payload_by c.mast c.copy first second
payload_of_used (Err e) first second = []

-- an answer with what it leaves for the two copies
abbrev pub chosen_outcome : Result Chosen MastsError → (first second : Left) → MastsOutcome
chosen_outcome r first second =
    record {
      mast = mast_of r;
      number = masts_number r;
      word = masts_word r;
      sequence = (chosen_of r).sequence;
      back = (chosen_of r).back;
      figures = (chosen_of r).figures;
      first = first;
      second = second;
      payload = payload_of_used r first.area second.area;
    }

abbrev pub hear_masts_outcome : Result Chosen MastsError → Record → (first second : Left) → HearMastsOutcome
hear_masts_outcome answer next first second = record { frame = chosen_outcome answer first second; next = next }

-- an answer that is chosen of two, whatever they leave
pub record Chooses (a b : Result Received ReceiveError) (r : Result Chosen MastsError) : Type 0 where
  pub outcome : (first second : Left) → chosen_outcome r first second ≡ choosing (receive_outcome a first.area first.map) (receive_outcome b second.area second.map)
