-- Whatever a frame is answered, there is an answer of the code for it, and what is left is as long as what was lent. So frames that lie end to
-- end keep their places.
-- Assumes nothing.
use Rattle.std.proofs.Math.Path.{◌≡◌, refl, ap}
use Rattle.std.proofs.Common.{◌∙◌, not-suc-le-zero, arith, lt-ltb, le-ltb}
use Rattle.std.specs.Prelude.{Bool, true, ◌≢◌, Result, Ok, Err, take, replicate, if◌then◌else◌}
use Rattle.std.proofs.Math.Bool.{false}
use mathlib.Core.List.{List, []}
use Rattle.std.proofs.Math.Option.{Option, some, none, get_or}
use Prim.Native.Nat.{ℕ, zero, suc, ◌+◌, ◌-◌, ◌≤◌, ◌<◌}
use Rattle.std.proofs.Math.Decide.{ℕ_discrete, dec_lt}
use Rattle.std.proofs.Math.ListN.{length}
use Rattle.std.proofs.lemmas.List.{length-replicate}
use Rattle.std.proofs.Math.Seq.{length-take-le}
use Rattle.algebra.specs.Tests.{first_below}
use Rattle.algebra.specs.Lists.{length_tabulate, length_joined}
use Rattle.algebra.specs.Refusal.{new, need_either}
use Rattle.word.specs.Setting.{message_size}
use Rattle.word.specs.Codeword.{in_reach}
use Rattle.word.specs.Code.Laws.{corrected_some}
use Rattle.word.specs.declared.Figures.{Figures}
use Rattle.interleave.specs.Slots.{spread_rule}
use Rattle.frame.specs.Frame.{word_setting, area_size, slot_count, is_none, received_word, received_marks, corrected_word, message_of, beyond, area_received, figures_received, map_received, ReceiveOutcome, receive_outcome, settled, decoded_frame, trailer_good, error_number, two_at, receive_refusal, receiving}
use Rattle.frame.specs.Frame.Limits.{FrameAllowed}
use Rattle.frame.specs.Checks.{receive_checked}
use Rattle.frame.specs.Receiving.{settled_bad, settled_good, decoded_beyond, receive_refused}
use Rattle.frame.specs.declared.setting.Framing.{Framing}
use Rattle.frame.specs.declared.setting.ReceiveError.{ReceiveError}
use Rattle.frame.specs.declared.setting.ReceiveError.TheVariants.{BadSetting, BadLength, BadMark, BeyondReach, BadTrailer}
use Rattle.frame.specs.declared.setting.Received.{Received}

-- an outcome is an answer with an area and a map of these lengths
pub record Whole (area_size_lem map_size : ℕ) (o : ReceiveOutcome) : Type 0 where
  pub answer : Result Received ReceiveError
  pub area : List ℕ
  pub map : List ℕ
  pub told : receive_outcome answer area map ≡ o
  pub area_fits : length area ≡ area_size_lem
  pub map_fits : length map ≡ map_size

-- ---- the words

-- where the first number that passes is none of them, none passes
none_passes : (n : ℕ) (t : ℕ → Bool) → n ≤ first_below n t → (i : ℕ) → i < n → t i ≡ false
unfolding first_below
none_passes zero t h i l = absurd (not-suc-le-zero l)
none_passes (suc n) t h i l = elim (dec_lt (first_below n t) n) [
  | yes b ↦ absurd (omega (arith, rw (lt-ltb (first_below n t) n b) at h))
  | no b ↦
      let last : t n ≡ false = last_fails (t n) refl (rw (le-ltb (first_below n t) n (omega arith)) at h) in
      elim (ℕ_discrete i n) [
        | yes e ↦ rw e last
        | no ne ↦ none_passes n t (omega arith) i (omega arith)
      ]
]
  where
    last_fails : (b : Bool) → t n ≡ b → suc n ≤ (if t n then n else suc n) → b ≡ false
    last_fails true e m = absurd (omega (arith, rw e at m))
    last_fails false e m = refl

module _ (f : Framing) (slots marks : List ℕ) where
  abbrev k : ℕ
  k = message_size (word_setting f)

  message_size_lem : (w : ℕ) → is_none (corrected_word f slots marks w) ≡ false → length (message_of f slots marks w) ≡ k
  unfolding message_of corrected_word
  message_size_lem w there = by_word (corrected_word f slots marks w) refl there
    where
      by_word : (o : Option (List ℕ)) → corrected_word f slots marks w ≡ o → is_none o ≡ false → length (take k (get_or o [])) ≡ k
      by_word none e h = let z : ◌≡◌ {A = ℕ} 0 1 = cc in absurd (omega arith)
      by_word (some c) e h =
          let marked : List ℕ = received_marks f slots marks w in
          let received : List ℕ = received_word f slots marks w in
          let reached = in_reach (word_setting f) marked received c (corrected_some (word_setting f) marked received c e) in
          length-take-le k c (omega (arith, reached.code.size))

  area_received_lem : f.depth ≤ beyond f slots marks → length (area_received f slots marks) ≡ area_size f
  unfolding area_received beyond
  area_received_lem h = length_joined k (message_of f slots marks) f.depth λ w l. message_size_lem w (none_passes f.depth (λ w. is_none (corrected_word f slots marks w)) h w l)

  map_received_lem : length (map_received f slots marks) ≡ slot_count f
  unfolding map_received
  map_received_lem = ap length (spread_rule f.depth f.n _) ∙ length_tabulate (slot_count f) _

-- ---- the trailer

module _ (figures : List Figures) (area map : List ℕ) (room : 4 ≤ length area) where
  settled_whole : Whole (length area) (length map) (settled (length area) figures area map)
  settled_whole = by_trailer (trailer_good (length area) area) refl
    where
      by_trailer : (good : Bool) → trailer_good (length area) area ≡ good → Whole (length area) (length map) (settled (length area) figures area map)
      by_trailer true e =
          record { answer = Ok (record { sequence = two_at area (length area - 4 + 2); back = two_at area (length area - 4); figures = figures }); area = area; map = map; told = settled_good figures area map room e _ _ refl refl; area_fits = refl; map_fits = refl }
      by_trailer false e =
          record { answer = Err BadTrailer; area = replicate (length area) 0; map = replicate (length map) 0; told = settled_bad figures area map e; area_fits = length-replicate (length area) 0; map_fits = length-replicate (length map) 0 }

-- ---- the frame

decoded_whole : (f : Framing) → FrameAllowed f → (slots marks : List ℕ) → Whole (area_size f) (slot_count f) (decoded_frame f slots marks)
unfolding decoded_frame
decoded_whole f a slots marks = elim (dec_lt (beyond f slots marks) f.depth) [
  | yes l ↦ record { answer = Err (BeyondReach (beyond f slots marks)); area = replicate (area_size f) 0; map = replicate (slot_count f) 0; told = decoded_beyond f slots marks _ refl l _ _ refl refl; area_fits = length-replicate (area_size f) 0; map_fits = length-replicate (slot_count f) 0 }
  | no l ↦
      let size : length (area_received f slots marks) ≡ area_size f = area_received_lem f slots marks (omega arith) in
      rw (le-ltb (beyond f slots marks) f.depth (omega arith))
      (rw (size, map_received_lem f slots marks) at (settled_whole (figures_received f slots marks) (area_received f slots marks) (map_received f slots marks) (omega (arith, a.room))))
]

-- a refusal by the checks is one of the code's
some_error : (f : Framing) (slots marks area map : List ℕ) → receive_refusal f slots marks area map ≢ 0 → (e : ReceiveError) × (error_number e ≡ receive_refusal f slots marks area map)
unfolding receive_refusal
some_error f slots marks area map =
    let named : ℕ → Type 0 = λ k. k ≢ 0 → (e : ReceiveError) × (error_number e ≡ k) in
    need_either _ 1 _ named (λ n. (BadSetting, refl))
    (need_either _ 2 _ named (λ n. (BadLength, refl)) (need_either _ 2 _ named (λ n. (BadLength, refl)) (need_either _ 2 _ named (λ n. (BadLength, refl))
    (need_either _ 2 _ named (λ n. (BadLength, refl)) (need_either _ 3 0 named (λ n. (BadMark, refl)) (λ n. absurd (n refl)))))))

pub receiving_whole : (f : Framing) (slots marks area map : List ℕ) → Whole (length area) (length map) (receiving f slots marks area map)
unfolding receiving
receiving_whole f slots marks area map = elim (ℕ_discrete (receive_refusal f slots marks area map) 0) [
  | yes e ↦
      let c = receive_checked f slots marks area map e in
      rw (c.area_size_lem, c.map_size, ← new (receive_refusal f slots marks area map) _ _ e) (decoded_whole f c.limits slots marks)
  | no n ↦
      let (e, h) = some_error f slots marks area map n in
      record { answer = Err e; area = area; map = map; told = (receive_refused f slots marks area map e h).outcome; area_fits = refl; map_fits = refl }
]
