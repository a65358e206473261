-- The bytes that are wanted decide the text: a program may stop reading there.
-- Assumes nothing.
use Rattle.std.specs.Prelude.{◌≡◌, refl, Bool, true, false, List, ℕ, ◌+◌, ◌≤◌, ltb, leb, length, take, drop}
use Rattle.std.proofs.Common.{sym, ap, ◌∙◌, arith, ltb-true, ltb-false, leb-true, leb-false, le-ltb, length-drop, take_all, length-take-le}
use Rattle.frame.specs.Frame.{slot_count, area_size, allowed_frame}
use Rattle.frame.specs.Checks.{receive_slots}
use Rattle.frame.specs.Receiving.{receiving_refused}
use Rattle.reader.specs.Spoken.{blank, answer_to, told, spoken}
use Rattle.text.specs.Text.{refusal}
use Rattle.reader.specs.Head.{framing_of, wanted_of, framing_front, wanted_short, wanted_refused, wanted_slots}
use Rattle.reader.specs.Spoken.Answers.{spoken_setting}

-- a wrong total
spoken_total : (input : List ℕ) → 4 ≤ length input → allowed_frame (framing_of input) ≡ true → (length (drop 4 input) ≡ slot_count (framing_of input) → ⊥) → refusal 2 ≡ spoken input
unfolding spoken answer_to told
spoken_total input long a n =
    let f = framing_of input in
    let refused = receive_slots f (drop 4 input) (blank (slot_count f)) (blank (area_size f)) (blank (slot_count f)) a n in
    rw (le-ltb (length input) 4 long, receiving_refused f (drop 4 input) (blank (slot_count f)) (blank (area_size f)) (blank (slot_count f)) 2 refused (omega arith))

module _ (input : List ℕ) (long : 4 ≤ length input) where
  -- a setting that is refused
  by_setting : allowed_frame (framing_of input) ≡ false → spoken (take 4 input) ≡ spoken input
  by_setting a =
      let size : length (take 4 input) ≡ 4 = length-take-le 4 input long in
      sym (spoken_setting (take 4 input) (omega arith) (rw (framing_front 4 input (omega arith)) a)) ∙ spoken_setting input long a

  -- more slots than the frame has
  by_total : allowed_frame (framing_of input) ≡ true → (n : ℕ) → n ≡ 4 + slot_count (framing_of input) + 1 → n ≤ length input → spoken (take n input) ≡ spoken input
  by_total a n e l =
      let size : length (take n input) ≡ n = length-take-le n input l in
      let same = framing_front n input (omega arith) in
      let count = ap slot_count same in
      sym (spoken_total (take n input) (omega arith) (rw same a) (λ h. omega (arith, length-drop 4 (take n input))))
      ∙ spoken_total input long a (λ h. omega (arith, length-drop 4 input))

pub wanted_decides : (input : List ℕ) → spoken (take (wanted_of input) input) ≡ spoken input
wanted_decides input = go (ltb (length input) 4) (allowed_frame (framing_of input)) (leb (length input) (4 + slot_count (framing_of input) + 1)) refl refl refl
  where
    go : (s a t : Bool) → ltb (length input) 4 ≡ s → allowed_frame (framing_of input) ≡ a → leb (length input) (4 + slot_count (framing_of input) + 1) ≡ t
        → spoken (take (wanted_of input) input) ≡ spoken input
    go true a t e f g =
        let l = ltb-true (length input) 4 e in
        rw (← wanted_short input l, take_all 4 input (omega arith))
    go false false t e f g =
        let l = ltb-false (length input) 4 e in
        rw (← wanted_refused input l f) (by_setting input l f)
    go false true true e f g =
        let l = ltb-false (length input) 4 e in
        rw (← wanted_slots input l f, take_all (4 + slot_count (framing_of input) + 1) input (leb-true _ _ g))
    go false true false e f g =
        let l = ltb-false (length input) 4 e in
        let m = leb-false (length input) (4 + slot_count (framing_of input) + 1) g in
        rw (← wanted_slots input l f) (by_total input l f _ refl (omega arith))
