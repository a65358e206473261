-- What is said of a frame's answer and of an input, one law for each return of the code.
-- Assumes nothing.
use Rattle.std.specs.Prelude.{◌≡◌, Result, Ok, Err, Bool, true, false, List, [], ℕ, ◌+◌, ◌-◌, ◌≤◌, ◌<◌, leb, length, take, drop, replicate, if◌then◌else◌}
use Rattle.std.proofs.Common.{sym, arith, length-take, length-take-le}
use borrow.Author.Tests.{lt-ltb, le-ltb, ne_eqb}
use Rattle.std.proofs.Math.ListN.{length-drop}
use Rattle.std.proofs.lemmas.List.{take-replicate}
use Rattle.std.proofs.Math.Seq.{take_all}
use Rattle.algebra.specs.Tests.{at}
use Rattle.frame.specs.Frame.{slot_count, area_size, allowed_frame, ReceiveOutcome, receive_outcome, receiving, error_number, payload_in, payload_of}
use Rattle.frame.specs.Frame.Limits.{FrameAllowed, slots_few, area_few}
use Rattle.frame.specs.Checks.{receive_setting}
use Rattle.frame.specs.Receiving.{refusal_some, receiving_refused}
use Rattle.frame.specs.declared.setting.Framing.{Framing}
use Rattle.frame.specs.declared.setting.ReceiveError.{ReceiveError}
use Rattle.frame.specs.declared.setting.Received.{Received}
use Rattle.text.specs.Page.{Writes}
use Rattle.text.specs.declared.Page.{Page}
use Rattle.text.specs.Text.{refusal}
use Rattle.reader.specs.Head.{framing_of}
use Rattle.reader.specs.Lines.{frame_text}
use Rattle.reader.specs.Spoken.{blank, answer_to, told, spoken}

-- ---- what is said of an answer

module _ (depth : ℕ) (area map : List ℕ) (o : ReceiveOutcome) {before after : Page} where
  pub told_refused : (e : ReceiveError) → receive_outcome (Err e) area map ≡ o → (k : ℕ) → k ≡ error_number e → Writes (refusal k) before after → Writes (told depth o) before after
  unfolding told
  told_refused e h k n p = rw (← h, ← n, ne_eqb k 0 (λ z. omega (arith, refusal_some e))) p

  pub told_accepted : (r : Received) → receive_outcome (Ok r) area map ≡ o → (payload : List ℕ) → payload ≡ payload_of (Ok r) area
      → Writes (frame_text depth r.sequence r.figures payload map) before after → Writes (told depth o) before after
  unfolding told
  told_accepted r h payload e p = rw (← h, ← e) p

-- a payload is no longer than its area
pub payload_fits : (r : Result Received ReceiveError) (area p : List ℕ) → p ≡ payload_of r area → length p ≤ length area
unfolding payload_of payload_in
payload_fits (Err _) area p e = rw e (omega arith)
payload_fits (Ok r) area p e = rw e (go (leb (r.back + 4) (length area)))
  where
    go : (t : Bool) → length (if t then take r.back (drop (length area - 4 - r.back) area) else []) ≤ length area
    go true = simp (length-take, length-drop) (omega arith)
    go false = omega arith

-- ---- the whole text

module _ (input : List ℕ) where
  pub spoken_short : length input < 4 → refusal 2 ≡ spoken input
  unfolding spoken
  spoken_short l = rw (lt-ltb (length input) 4 l)

  module _ (long : 4 ≤ length input) where
    -- the code's slots are the part from 4 to the end
    pub spoken_answer : told (at input 0) (answer_to (framing_of input) (take (length input - 4) (drop 4 input))) ≡ spoken input
    unfolding spoken
    spoken_answer = rw (le-ltb (length input) 4 long, take_all (length input - 4) (drop 4 input) (simp length-drop (omega arith)))

    pub spoken_setting : allowed_frame (framing_of input) ≡ false → refusal 1 ≡ spoken input
    unfolding spoken answer_to told
    spoken_setting a =
        let f = framing_of input in
        let refused = receive_setting f (drop 4 input) (blank (slot_count f)) (blank (area_size f)) (blank (slot_count f)) a in
        rw (le-ltb (length input) 4 long, receiving_refused f (drop 4 input) (blank (slot_count f)) (blank (area_size f)) (blank (slot_count f)) 1 refused (omega arith))

-- ---- the work space

-- a part of the work space is as long as asked
pub part_size : (n : ℕ) (w : List ℕ) → n ≤ 4080 → length w ≡ 4080 → n ≡ length (take n w)
part_size n w l e = sym (length-take-le n w (omega arith))

-- the work space's parts are the marks, the area and the map that are meant
pub unmarked : (f : Framing) (slots w₁ w₂ w₃ : List ℕ) → FrameAllowed f → w₁ ≡ replicate 4080 0 → w₂ ≡ replicate 4080 0 → w₃ ≡ replicate 4080 0
    → receiving f slots (take (slot_count f) w₁) (take (area_size f) w₂) (take (slot_count f) w₃) ≡ answer_to f slots
unfolding answer_to blank
unmarked f slots w₁ w₂ w₃ l e g h =
    rw (e, g, h, take-replicate {X = ℕ} (slot_count f) 4080 0 (slots_few f l), take-replicate {X = ℕ} (area_size f) 4080 0 (area_few f l))
