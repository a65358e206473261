-- The checks that stand before a replay reads any frame: what is known once none has failed, and which calls none fails.
-- Assumes nothing.
use Rattle.std.specs.Prelude.{◌≡◌, refl, false, List, ℕ, ◌+◌, ◌*◌, ◌≤◌, ◌<◌, length, T}
use Rattle.std.proofs.Math.Path.{sym}
use Rattle.std.proofs.Common.{◌∙◌, mul-le-mul_left, mul-div_cancel, arith}
use Rattle.std.proofs.Math.Decide.{ℕ_discrete, dec_le}
use Rattle.std.proofs.Math.Nat.{mul-le-mul_right, div-le_of_le-mul}
use Rattle.algebra.specs.Tests.{passed}
use Rattle.algebra.specs.Lists.{within}
use Rattle.algebra.specs.Refusal.{passes, need, need_yes, need_no, need_zero}
use Rattle.frame.specs.Frame.{area_size, slot_count, allowed_frame}
use Rattle.frame.specs.Frame.Limits.{FrameAllowed, frame_kept, frame_yes, area_few, slots_few}
use Rattle.frame.specs.declared.setting.Framing.{Framing}
use Rattle.link.specs.Replay.{frames_in, replay_refusal}

-- the number where a need fails, or one that comes after it
need_or : {P : Type 0} (w : Dec P) (k : ℕ) {rest : ℕ} → (P → k ≡ rest) → k ≡ need w k rest
need_or (yes p) k h = need_yes _ _ _ _ p (h p)
need_or (no n) k h = need_no _ _ _ n

pub record ReplayChecked (f : Framing) (slots marks areas maps results : List ℕ) : Type 0 where
  pub limits : FrameAllowed f
  pub few : frames_in f slots ≤ 64
  pub slots_size : length slots ≡ frames_in f slots * slot_count f
  pub marks_size : length marks ≡ frames_in f slots * slot_count f
  pub areas_size : length areas ≡ frames_in f slots * area_size f
  pub maps_size : length maps ≡ frames_in f slots * slot_count f
  pub results_size : length results ≡ frames_in f slots * 52

-- a frame has slots
pub some_slots : (f : Framing) → FrameAllowed f → 0 < slot_count f
some_slots f a =
    let n : f.n * 1 ≤ f.n * f.depth = mul-le-mul_left f.n a.some in
    omega (arith, a.words.room)

-- at most 64 frames, whose areas are not long
pub few_frames : (f : Framing) (slots : List ℕ) → length slots ≤ 64 * slot_count f → frames_in f slots ≤ 64
few_frames f slots l = div-le_of_le-mul (slot_count f) (omega arith)

pub areas_few : (f : Framing) → FrameAllowed f → (slots : List ℕ) → length slots ≤ 64 * slot_count f → frames_in f slots * area_size f ≤ 261120
areas_few f a slots l =
    let few : frames_in f slots * area_size f ≤ 64 * area_size f = mul-le-mul_right (area_size f) (few_frames f slots l) in
    omega (arith, area_few f a)

-- as many frames as lie end to end
pub frames_counted : (f : Framing) → FrameAllowed f → (slots : List ℕ) (many : ℕ) → length slots ≡ many * slot_count f → frames_in f slots ≡ many
frames_counted f a slots many e = rw e (mul-div_cancel many (some_slots f a))

module _ (f : Framing) (slots marks areas maps results : List ℕ) where
  pub replay_checked : replay_refusal f slots marks areas maps results ≡ 0 → ReplayChecked f slots marks areas maps results
  unfolding replay_refusal
  replay_checked e =
      let (a, e₁) = need_zero (passes (allowed_frame f)) 1 _ (omega arith) e in
      let (l, e₂) = need_zero (dec_le (length slots) (64 * slot_count f)) 1 _ (omega arith) e₁ in
      let (n, e₃) = need_zero (ℕ_discrete (length slots) (frames_in f slots * slot_count f)) 2 _ (omega arith) e₂ in
      let (m, e₄) = need_zero (ℕ_discrete (length marks) (length slots)) 2 _ (omega arith) e₃ in
      let (k, e₅) = need_zero (ℕ_discrete (length areas) (frames_in f slots * area_size f)) 2 _ (omega arith) e₄ in
      let (p, e₆) = need_zero (ℕ_discrete (length maps) (length slots)) 2 _ (omega arith) e₅ in
      let (q, _) = need_zero (ℕ_discrete (length results) (frames_in f slots * 52)) 2 _ (omega arith) e₆ in
      let limits = frame_kept f (passed _ a) in
      record { limits = limits; few = few_frames f slots l; slots_size = n; marks_size = m ∙ n; areas_size = k; maps_size = p ∙ n; results_size = q }

-- the lengths that go with as many frames as the slots hold
pub record LengthsFit (f : Framing) (slots marks areas maps results : List ℕ) : Type 0 where
  pub slots_whole : length slots ≡ frames_in f slots * slot_count f
  pub marks_same : length marks ≡ length slots
  pub areas_fit : length areas ≡ frames_in f slots * area_size f
  pub maps_same : length maps ≡ length slots
  pub results_fit : length results ≡ frames_in f slots * 52

-- what is wrong decides the number, one law for each return of the code
module _ (f : Framing) (slots marks areas maps results : List ℕ) where
  pub setting_wrong : allowed_frame f ≡ false → 1 ≡ replay_refusal f slots marks areas maps results
  unfolding replay_refusal
  setting_wrong a = need_no _ _ _ (λ t. rw a at t)

  module _ (limits : FrameAllowed f) where
    allowed : T (allowed_frame f)
    allowed = rw (← frame_yes f limits) tt

    pub too_many : 64 * slot_count f < length slots → 1 ≡ replay_refusal f slots marks areas maps results
    unfolding replay_refusal
    too_many l = need_yes _ _ _ _ allowed (need_no _ _ _ (λ m. absurd (omega arith)))

    module _ (few : length slots ≤ 64 * slot_count f) where
      pub lengths_wrong : ¬ LengthsFit f slots marks areas maps results → 2 ≡ replay_refusal f slots marks areas maps results
      unfolding replay_refusal
      lengths_wrong wrong =
          need_yes _ _ _ _ allowed (need_yes _ _ _ _ few
          (need_or _ _ λ n. need_or _ _ λ m. need_or _ _ λ k. need_or _ _ λ p. need_or _ _ λ q.
          absurd (wrong (record { slots_whole = n; marks_same = m; areas_fit = k; maps_same = p; results_fit = q }))))

      pub lengths_right : LengthsFit f slots marks areas maps results → 0 ≡ replay_refusal f slots marks areas maps results
      unfolding replay_refusal
      lengths_right c =
          need_yes _ _ _ _ allowed (need_yes _ _ _ _ few
          (need_yes _ _ _ _ c.slots_whole (need_yes _ _ _ _ c.marks_same (need_yes _ _ _ _ c.areas_fit (need_yes _ _ _ _ c.maps_same (need_yes _ _ _ _ c.results_fit refl))))))

  pub replay_passes : ReplayChecked f slots marks areas maps results → 0 ≡ replay_refusal f slots marks areas maps results
  replay_passes c =
      let few : frames_in f slots * slot_count f ≤ 64 * slot_count f = mul-le-mul_right (slot_count f) c.few in
      lengths_right c.limits (omega (arith, c.slots_size)) (record {
        slots_whole = c.slots_size;
        marks_same = c.marks_size ∙ sym c.slots_size;
        areas_fit = c.areas_size;
        maps_same = c.maps_size ∙ sym c.slots_size;
        results_fit = c.results_size;
      })

-- frame i's parts lie in what was lent
pub record Lies (f : Framing) (slots marks areas maps results : List ℕ) (i : ℕ) : Type 0 where
  pub in_slots : i * slot_count f + slot_count f ≤ length slots
  pub in_marks : i * slot_count f + slot_count f ≤ length marks
  pub in_areas : i * area_size f + area_size f ≤ length areas
  pub in_maps : i * slot_count f + slot_count f ≤ length maps
  pub in_results : i * 52 + 52 ≤ length results
  pub few_slots : length slots ≤ 261120
  pub few_areas : length areas ≤ 261120

pub lies : {f : Framing} {slots marks areas maps results : List ℕ} → ReplayChecked f slots marks areas maps results → (i : ℕ) → i < frames_in f slots → Lies f slots marks areas maps results i
lies {f = f} {slots = slots} c i l =
    let own = within i (frames_in f slots) (slot_count f) l in
    let room = within i (frames_in f slots) (area_size f) l in
    let most : frames_in f slots * slot_count f ≤ 64 * slot_count f = mul-le-mul_right (slot_count f) c.few in
    let wide = areas_few f c.limits slots (omega (arith, c.slots_size)) in
    record {
      in_slots = omega (arith, c.slots_size);
      in_marks = omega (arith, c.marks_size);
      in_areas = omega (arith, c.areas_size);
      in_maps = omega (arith, c.maps_size);
      in_results = omega (arith, c.results_size);
      few_slots = omega (arith, c.slots_size, slots_few f c.limits);
      few_areas = omega (arith, c.areas_size);
    }
