-- The calls on a frame for C (document 01, Block interleaver and frame; document 02, No. 9): the setting, what is seen of an answer, what each call promises, that
-- the place seen is the payload's, and that no call has a second answer.
-- Assumes nothing.
use Rattle.std.specs.Prelude.{◌≡◌, refl, Result, Ok, Err, Option, Bool, List, ◌≢◌, ℕ, ◌+◌, ◌-◌, eqb, take, drop, if◌then◌else◌}
use Rattle.std.proofs.Common.{ap, ◌∙◌, arith, length-drop, le-leb, ne_eqb}
use Rattle.std.proofs.Math.Decide.{dec_le}
use Rattle.std.proofs.Math.ListN.{length, length-take}
use Rattle.std.proofs.lemmas.Bool.{lt-leb}
use Rattle.algebra.specs.Tests.{one_if}
use Rattle.frame.specs.Frame.{allowed_frame, sent_number, number_of, word_number, received_of, payload_in, payload_of}
use Rattle.frame.specs.Clean.{clean_number, is_yes, unclean_word}
use Rattle.frame.specs.Promises.{Sends, Receives, IsClean, sends_once, receives_once, is_clean_once}
use Rattle.frame.specs.declared.setting.Framing.{Framing}
use Rattle.frame.specs.declared.setting.Received.{Received}
use Rattle.frame.specs.declared.setting.ReceiveError.{ReceiveError}
use Rattle.frame.specs.declared.clean.CleanError.{CleanError}
use Rattle.radio.specs.Shown.{Shows, shown_once}
use Rattle.radio.specs.declared.frames.FrameSetting.{FrameSetting}
use Rattle.radio.specs.declared.frames.FrameAnswer.{FrameAnswer}
use Rattle.radio.specs.declared.frames.FrameClean.{FrameClean}

abbrev pub framing_of : FrameSetting → Framing
framing_of s = record { depth = s.depth; n = s.n; r = s.r; b = s.b }

-- a payload of so many bytes ends four before the end of the area; a refused frame has none
unfoldable pub start_of : ℕ → ℕ → ℕ → ℕ
start_of number size many = if eqb number 0 then size - 4 - many else 0

-- an answer with the bytes of the area that it left, and of the payload in it
abbrev pub frame_sized : (size many : ℕ) → Result Received ReceiveError → FrameAnswer
frame_sized size many t =
    record {
      answer = number_of t;
      word = word_number t;
      sequence = (received_of t).sequence;
      start = start_of (number_of t) size many;
      length = many;
      figures = (received_of t).figures;
    }

-- an answer with the area that it left
abbrev pub frame_seen : List ℕ → Result Received ReceiveError → FrameAnswer
frame_seen area t = frame_sized (length area) (length (payload_of t area)) t

abbrev pub clean_seen : Result (Option ℕ) CleanError → FrameClean
clean_seen d = record { answer = clean_number d; clean = one_if (is_yes d); word = unclean_word d }

-- ---- the promises, each of the call below with what is seen of its answer

abbrev pub FrameSend : FrameSetting → List ℕ → ℕ → List ℕ → ℕ → List ℕ → Type 0
FrameSend s payload sequence slots r left = Shows sent_number (λ d. Sends (framing_of s) payload sequence slots d left) r

abbrev pub FrameReceive : FrameSetting → (slots marks area map : List ℕ) → FrameAnswer → (left left_map : List ℕ) → Type 0
FrameReceive s slots marks area map r left left_map = Shows (frame_seen left) (λ t. Receives (framing_of s) slots marks area map t left left_map) r

abbrev pub FrameIsClean : FrameSetting → List ℕ → FrameClean → Type 0
FrameIsClean s slots r = Shows clean_seen (IsClean (framing_of s) slots) r

-- ---- laws

-- the cases of the start
module _ (number size many : ℕ) where
  pub start_refused : number ≢ 0 → 0 ≡ start_of number size many
  unfolding start_of
  start_refused n = rw (ne_eqb number 0 n)

  pub start_accepted : number ≡ 0 → (s : ℕ) → s ≡ size - 4 - many → s ≡ start_of number size many
  unfolding start_of
  start_accepted z s e = rw z e

-- what an answer hands back is that part of the area: `length` bytes from `start` on
module _ (back : ℕ) (area : List ℕ) where
  abbrev handed : List ℕ
  handed = payload_in back area

  place_in : handed ≡ take (length handed) (drop (length area - 4 - length handed) area)
  unfolding payload_in
  place_in = elim (dec_le (back + 4) (length area)) [
    | yes l ↦
        let e : length (take back (drop (length area - 4 - back) area)) ≡ back = length-take back _ ∙ rw (length-drop (length area - 4 - back) area) (omega arith) in
        rw (le-leb (back + 4) (length area) l, e)
    | no n ↦ rw (lt-leb (back + 4) (length area) (omega arith))
  ]

pub payload_place : (t : Result Received ReceiveError) (area : List ℕ) →
    let r = frame_seen area t in
    payload_of t area ≡ take r.length (drop r.start area)
unfolding payload_of start_of
payload_place (Ok r) area = place_in r.back area
payload_place (Err e) area = refl

-- ---- no second answer: of each call's answer, and of what it leaves in the lent slots, or in the area and the map

pub frame_is_allowed_once : (s : FrameSetting) (r q : Bool) → r ≡ allowed_frame (framing_of s) → q ≡ allowed_frame (framing_of s) → r ≡ q
frame_is_allowed_once s r q p u = cc

module _ (s : FrameSetting) where
  pub frame_send_once : (payload : List ℕ) (sequence : ℕ) (slots : List ℕ) (r q : ℕ) (x y : List ℕ) → FrameSend s payload sequence slots r x → FrameSend s payload sequence slots q y → (r ≡ q) × (x ≡ y)
  frame_send_once payload sequence slots r q x y p u =
      let (e, l) = sends_once p.promised u.promised in
      (shown_once p u refl e, l)

  pub frame_receive_once : (slots marks area map : List ℕ) (r q : FrameAnswer) (x y x' y' : List ℕ)
      → FrameReceive s slots marks area map r x x' → FrameReceive s slots marks area map q y y' → (r ≡ q) × (x ≡ y) × (x' ≡ y')
  frame_receive_once slots marks area map r q x y x' y' p u =
      let (e, l, m) = receives_once p.promised u.promised in
      (shown_once p u (ap frame_seen l) e, l, m)

  pub frame_is_clean_once : (slots : List ℕ) (r q : FrameClean) → FrameIsClean s slots r → FrameIsClean s slots q → r ≡ q
  frame_is_clean_once slots r q p u = shown_once p u refl (is_clean_once p.promised u.promised)
