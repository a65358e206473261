-- Document 02, No. 2, "A morning's frames at once": what hearing up to 64 frames that lie end to end answers and leaves, for every input.
-- Assumes nothing.
use Rattle.std.specs.Prelude.{Result, Ok, Err, List, [], ◌∷◌, ℕ, zero, suc, ◌*◌, ◌/◌, length, get_or}
use Rattle.std.proofs.Math.Decide.{ℕ_discrete, dec_le}
use Rattle.algebra.specs.Lists.{joined, part}
use Rattle.algebra.specs.Refusal.{need, if_zero, passes}
use Rattle.word.specs.Answers.{no_figures}
use Rattle.word.specs.declared.Figures.{Figures}
use Rattle.frame.specs.Frame.{slot_count, area_size, allowed_frame, ReceiveOutcome}
use Rattle.frame.specs.declared.setting.Framing.{Framing}
use Rattle.record.specs.declared.Record.{Record}
use Rattle.link.specs.Receiver.{HearOutcome, hearing}
use Rattle.link.specs.declared.replaying.ReplayError.{ReplayError}
use Rattle.link.specs.declared.replaying.ReplayError.TheVariants.{BadSetting, BadLength}
pub mod Checks
pub mod Places
pub mod Turns
pub mod Whole
pub mod Each

-- ---- the frames

-- how many the slots hold
abbrev pub frames_in : Framing → List ℕ → ℕ
frames_in f slots = length slots / slot_count f

module _ (before : Record) (f : Framing) (slots marks areas maps : List ℕ) where
  -- frame i, heard with this record, by its own part of all that lies end to end
  abbrev pub heard_with : Record → ℕ → HearOutcome
  heard_with r i = hearing r f (part (slot_count f) i slots) (part (slot_count f) i marks) (part (area_size f) i areas) (part (slot_count f) i maps)

  -- the record after the first i frames
  unfoldable pub record_after : ℕ → Record
  record_after zero = before
  record_after (suc i) = (heard_with (record_after i) i).next

  -- frame i, heard with the record that those before it left
  abbrev pub heard : ℕ → HearOutcome
  heard i = heard_with (record_after i) i

-- ---- their results

-- e, f and bits of each of the sixteen words, one after the other
abbrev pub three_of : Figures → List ℕ
three_of found = found.errors ∷ found.marked ∷ found.bits ∷ []

unfoldable pub numbers_of : List Figures → List ℕ
numbers_of figures = joined 16 λ w. three_of (get_or figures w no_figures)

-- what a frame was answered, as 52 numbers: its number, word, sequence number and back, and then its words' figures
unfoldable pub result_of : ReceiveOutcome → List ℕ
result_of o = o.number ∷ o.word ∷ o.sequence ∷ o.back ∷ numbers_of o.figures

-- ---- all of them

-- what a replay answers and leaves
pub record ReplayOutcome : Type 0 where
  pub number : ℕ
  pub frames : ℕ
  pub areas : List ℕ
  pub maps : List ℕ
  pub results : List ℕ
  pub next : Record

-- the number of an answer, and how many frames were heard
abbrev pub replay_number : {A : Type 0} → Result A ReplayError → ℕ
replay_number (Ok a) = 0
replay_number (Err BadSetting) = 1
replay_number (Err BadLength) = 2

abbrev pub frames_heard : Result ℕ ReplayError → ℕ
frames_heard (Ok frames) = frames
frames_heard (Err e) = 0

abbrev pub replay_outcome : Result ℕ ReplayError → Record → (areas maps results : List ℕ) → ReplayOutcome
replay_outcome answer next areas maps results = record { number = replay_number answer; frames = frames_heard answer; areas = areas; maps = maps; results = results; next = next }

-- so many frames are heard, one after the other
abbrev pub heard_in_turn : Record → Framing → (slots marks areas maps : List ℕ) → ℕ → ReplayOutcome
heard_in_turn before f slots marks areas maps many =
    let told = heard before f slots marks areas maps in
    record {
      number = 0;
      frames = many;
      areas = joined many λ i. (told i).frame.area;
      maps = joined many λ i. (told i).frame.map;
      results = joined many λ i. result_of (told i).frame;
      next = record_after before f slots marks areas maps many;
    }

-- checked before any frame is read, in this order; 0 where all are passed
unfoldable pub replay_refusal : Framing → (slots marks areas maps results : List ℕ) → ℕ
replay_refusal f slots marks areas maps results =
    need (passes (allowed_frame f)) 1
    (need (dec_le (length slots) (64 * slot_count f)) 1
    (need (ℕ_discrete (length slots) (frames_in f slots * slot_count f)) 2
    (need (ℕ_discrete (length marks) (length slots)) 2
    (need (ℕ_discrete (length areas) (frames_in f slots * area_size f)) 2
    (need (ℕ_discrete (length maps) (length slots)) 2
    (need (ℕ_discrete (length results) (frames_in f slots * 52)) 2 0))))))

-- these refusals leave everything
unfoldable pub replaying : Record → Framing → (slots marks areas maps results : List ℕ) → ReplayOutcome
replaying before f slots marks areas maps results =
    let k = replay_refusal f slots marks areas maps results in
    if_zero k (heard_in_turn before f slots marks areas maps (frames_in f slots)) (record { number = k; frames = 0; areas = areas; maps = maps; results = results; next = before })
