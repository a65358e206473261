-- The calls on two masts for C (document 02, No. 1): what is seen of an answer, what each call promises, that the place seen is the payload's,
-- and that no call has a second answer.
-- Assumes nothing.
use Rattle.std.specs.Prelude.{◌≡◌, refl, Option, Some, None, Result, Ok, Err, List, [], ℕ, length, replicate, take, drop}
use Rattle.std.proofs.Common.{ap₂}
use Rattle.word.specs.Answers.{no_figures}
use Rattle.record.specs.declared.Record.{Record}
use Rattle.link.specs.Masts.{Copy, Left, mast_of, masts_number, masts_word, chosen_of, payload_of_used}
use Rattle.link.specs.Promises.{ReceivesMasts, receives_masts_once, HearsMasts, hears_masts_once}
use Rattle.link.specs.declared.choice.Mast.{Mast}
use Rattle.link.specs.declared.choice.Mast.TheVariants.{First, Second}
use Rattle.link.specs.declared.choice.Chosen.{Chosen}
use Rattle.link.specs.declared.choice.MastsError.{MastsError}
use Rattle.link.specs.declared.hearing.Heard.{Heard}
use Rattle.radio.specs.Shown.{Shows, shown_once}
use Rattle.radio.specs.Frames.{framing_of, start_of, payload_place}
use Rattle.radio.specs.Records.{record_of, record_seen}
use Rattle.radio.specs.declared.frames.FrameSetting.{FrameSetting}
use Rattle.radio.specs.declared.frames.FrameAnswer.{FrameAnswer}
use Rattle.radio.specs.declared.records.LentRecord.{LentRecord}
use Rattle.radio.specs.declared.masts.ChosenAnswer.{ChosenAnswer}
use Rattle.radio.specs.declared.masts.MastsAnswer.{MastsAnswer}

abbrev pub mast_number : Option Mast → ℕ
mast_number (Some First) = 1
mast_number (Some Second) = 2
mast_number None = 0

-- of two things, one for each mast, that of the mast that is used
abbrev pub of_used : {A : Type 0} → Option Mast → (first second neither : A) → A
of_used (Some First) first second neither = first
of_used (Some Second) first second neither = second
of_used None first second neither = neither

-- the payload that is handed back, as a part of the area of the mast that is used
abbrev pub handed : (first second : List ℕ) → Result Chosen MastsError → List ℕ
handed first second t = payload_of_used t first second

-- an answer with the areas that it left
abbrev pub chosen_seen : (first second : List ℕ) → Result Chosen MastsError → ChosenAnswer
chosen_seen first second t =
    record {
      mast = mast_number (mast_of t);
      frame =
          record {
            answer = masts_number t;
            word = masts_word t;
            sequence = (chosen_of t).sequence;
            start = start_of (masts_number t) (of_used (mast_of t) (length first) (length second) 0) (length (handed first second t));
            length = length (handed first second t);
            figures = (chosen_of t).figures;
          };
    }

-- what is seen of two accepted copies that are two frames
abbrev pub two_frames : FrameAnswer
two_frames = record { answer = 8; word = 0; sequence = 0; start = 0; length = 0; figures = replicate 16 no_figures }

-- record and answer after two copies
abbrev pub both_masts_seen : LentRecord → ChosenAnswer → MastsAnswer
both_masts_seen next answer = record { next = next; answer = answer }

abbrev pub masts_seen : LentRecord → (first second : List ℕ) → Heard (Result Chosen MastsError) → MastsAnswer
masts_seen before first second t = both_masts_seen (record_seen before t.next) (chosen_seen first second t.answer)

-- ---- the promises, each of the call below with what is seen of its answer

abbrev pub MastsReceive : FrameSetting → (first second : Copy) → ChosenAnswer → (left_first left_second : Left) → Type 0
MastsReceive s first second r x y = Shows (chosen_seen x.area y.area) (λ t. ReceivesMasts (framing_of s) first second t x y) r

-- `yaxo_masts_hear` answers this, and `yaxo_masts_hear_in` leaves the record and answers the rest
abbrev pub MastsHear : LentRecord → FrameSetting → (first second : Copy) → MastsAnswer → (left_first left_second : Left) → Type 0
MastsHear h s first second r x y = Shows (masts_seen h x.area y.area) (λ t. HearsMasts (record_of h) (framing_of s) first second t.answer t.next x y) r

-- ---- no second answer, and nothing else is left in the lent record, areas and maps

pub masts_receive_once : (s : FrameSetting) (first second : Copy) (r q : ChosenAnswer) (x y x' y' : Left) → MastsReceive s first second r x y → MastsReceive s first second q x' y' → (r ≡ q) × (x ≡ x') × (y ≡ y')
masts_receive_once s first second r q x y x' y' p u =
    let (e, l, m) = receives_masts_once p.promised u.promised in
    (shown_once p u (ap₂ (λ (a b : Left). chosen_seen a.area b.area) l m) e, l, m)

pub masts_hear_once : (h : LentRecord) (s : FrameSetting) (first second : Copy) (r q : MastsAnswer) (x y x' y' : Left) → MastsHear h s first second r x y → MastsHear h s first second q x' y' → (r ≡ q) × (x ≡ x') × (y ≡ y')
masts_hear_once h s first second r q x y x' y' p u =
    let (a, n, l, m) = hears_masts_once p.promised u.promised in
    (shown_once p u (ap₂ (λ (a b : Left). masts_seen h a.area b.area) l m) (ap₂ (λ (k : Record) (t : Result Chosen MastsError). record { next = k; answer = t }) n a), l, m)

-- ---- the place

-- what an answer hands back is that part of the area of the mast that is used: `length` bytes from `start` on
pub masts_place : (t : Result Chosen MastsError) (first second : List ℕ) →
    let r = (chosen_seen first second t).frame in
    handed first second t ≡ take r.length (drop r.start (of_used (mast_of t) first second []))
masts_place (Ok c) first second = by_mast c.mast
  where
    by_mast : (mast : Mast) →
        let t : Result Chosen MastsError = Ok (record { mast = mast; copy = c.copy }) in
        let r = (chosen_seen first second t).frame in
        handed first second t ≡ take r.length (drop r.start (of_used (mast_of t) first second []))
    by_mast First = payload_place (Ok c.copy) first
    by_mast Second = payload_place (Ok c.copy) second
masts_place (Err e) first second = refl
