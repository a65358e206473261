-- The answers of receiving one by one: what the trailer says, what the words say, and what the checks say.
-- Assumes nothing.
use Rattle.std.specs.Prelude.{◌≡◌, true, false, Result, Ok, Err, List, ℕ, ◌+◌, ◌-◌, ◌≤◌, ◌<◌, replicate}
use Rattle.std.proofs.Common.{sym, ◌∙◌}
use native.Mathlib.Omega.{arith}
use borrow.Author.Tests.{lt-ltb, le-ltb}
use Rattle.std.proofs.Math.ListN.{length}
use Rattle.algebra.specs.Refusal.{new, kept}
use Rattle.word.specs.declared.Figures.{Figures}
use Rattle.frame.specs.Frame.{area_size, slot_count, beyond, area_received, figures_received, map_received, two_at, trailer_good, payload_of, error_number, receive_outcome, refused_frame, settled, decoded_frame, receive_refusal, receiving}
use Rattle.frame.specs.Promises.{Receives}
use Rattle.frame.specs.Checks.{ReceiveChecked, receive_passes, refused_no_word}
use Rattle.frame.specs.declared.setting.Framing.{Framing}
use Rattle.frame.specs.declared.setting.Received.{Received}
use Rattle.frame.specs.declared.setting.ReceiveError.{ReceiveError}
use Rattle.frame.specs.declared.setting.ReceiveError.TheVariants.{BadSetting, BadLength, BadMark, BeyondReach, BadTrailer}

-- ---- the trailer

module _ (figures : List Figures) (area map : List ℕ) where
  pub settled_bad : trailer_good (length area) area ≡ false → receive_outcome (Err BadTrailer) (replicate (length area) 0) (replicate (length map) 0) ≡ settled (length area) figures area map
  unfolding settled payload_of
  settled_bad e = rw e

  pub settled_good : 4 ≤ length area → trailer_good (length area) area ≡ true → (sequence back : ℕ)
      → sequence ≡ two_at area (length area - 4 + 2) → back ≡ two_at area (length area - 4)
      → receive_outcome (Ok (record { sequence = sequence; back = back; figures = figures })) area map ≡ settled (length area) figures area map
  unfolding settled payload_of
  settled_good l e sequence back s b =
      let n : length area - 4 + 2 ≡ length area - 2 = omega arith in
      rw (e, s, b, n)

-- ---- the words

module _ (f : Framing) (slots marks : List ℕ) where
  pub decoded_beyond : (w : ℕ) → w ≡ beyond f slots marks → w < f.depth → (A N : ℕ) → A ≡ area_size f → N ≡ slot_count f
      → receive_outcome (Err (BeyondReach w)) (replicate A 0) (replicate N 0) ≡ decoded_frame f slots marks
  unfolding decoded_frame payload_of
  decoded_beyond w e l A N h k = rw (h, k, ← e, lt-ltb w f.depth l)

  pub decoded_settled : beyond f slots marks ≡ f.depth → (A : ℕ) (figures : List Figures) (message map : List ℕ) → A ≡ area_size f → figures ≡ figures_received f slots marks → message ≡ area_received f slots marks → map ≡ map_received f slots marks
      → settled A figures message map ≡ decoded_frame f slots marks
  unfolding decoded_frame
  decoded_settled e A figures message map a g h m = rw (e, le-ltb f.depth f.depth (omega arith), a, g, h, m)

-- ---- the checks

-- a refusal's number is not 0
pub refusal_some : (e : ReceiveError) → 0 < error_number e
refusal_some BadSetting = omega arith
refusal_some BadLength = omega arith
refusal_some BadMark = omega arith
refusal_some (BeyondReach w) = omega arith
refusal_some BadTrailer = omega arith

module _ (f : Framing) (slots marks area map : List ℕ) where
  pub receiving_refused : (k : ℕ) → k ≡ receive_refusal f slots marks area map → 0 < k → receiving f slots marks area map ≡ refused_frame k 0 area map
  unfolding receiving
  receiving_refused k e h = rw e (sym (kept (receive_refusal f slots marks area map) _ _ (omega arith)))

  pub receive_refused : (e : ReceiveError) → error_number e ≡ receive_refusal f slots marks area map → Receives f slots marks area map (Err e) area map
  unfolding payload_of
  receive_refused e h = record { outcome = rw (refused_no_word f slots marks area map e h) (sym (receiving_refused (error_number e) h (refusal_some e))) }

  pub receive_decoded : ReceiveChecked f slots marks area map → (r : Result Received ReceiveError) (left left_map : List ℕ) → receive_outcome r left left_map ≡ decoded_frame f slots marks → Receives f slots marks area map r left left_map
  unfolding receiving
  receive_decoded c r left left_map e = record { outcome = e ∙ new _ _ _ (sym (receive_passes f slots marks area map c)) }
