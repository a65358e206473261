-- The checks that stand before a frame is sent, received or asked about (document 01, Numbers a call can answer): what is known once none has failed, and
-- which calls none fails.
-- Assumes nothing.
use Rattle.std.specs.Prelude.{◌≡◌, true, false, Result, Ok, Err, List, length, T}
use Rattle.std.proofs.Math.Path.{refl}
use Prim.Native.Nat.{ℕ, ◌+◌, ◌-◌, ◌≤◌}
use Rattle.std.proofs.Math.Decide.{ℕ_discrete, dec_le}
use Rattle.std.proofs.Common.{arith}
use Rattle.algebra.specs.Tests.{below, passed}
use Rattle.algebra.specs.Refusal.{passes, need_yes, need_no, need_zero, need_either}
use Rattle.frame.specs.Frame.{area_size, slot_count, allowed_frame, sent_number, send_refusal, receive_refusal, error_number, error_word}
use Rattle.frame.specs.Frame.Limits.{FrameAllowed, frame_kept, frame_yes, small_kept}
use Rattle.frame.specs.Clean.{clean_number, clean_refusal}
use Rattle.frame.specs.declared.setting.Framing.{Framing}
use Rattle.frame.specs.declared.setting.SendError.{SendError}
use Rattle.frame.specs.declared.setting.ReceiveError.{ReceiveError}
use Rattle.frame.specs.declared.clean.CleanError.{CleanError}
use Rattle.frame.specs.declared.setting.ReceiveError.TheVariants.{BadSetting, BadLength, BadMark, BeyondReach, BadTrailer}

is_allowed : (f : Framing) → FrameAllowed f → T (allowed_frame f)
is_allowed f a = rw (← frame_yes f a) tt

-- ---- before a frame is sent

pub record SendChecked (f : Framing) (payload slots : List ℕ) : Type 0 where
  pub limits : FrameAllowed f
  pub slots_size : length slots ≡ slot_count f
  pub fits : length payload + 4 ≤ area_size f

module _ (f : Framing) (payload slots : List ℕ) where
  pub send_checked : send_refusal f payload slots ≡ 0 → SendChecked f payload slots
  unfolding send_refusal
  send_checked e =
      let (a, e₁) = need_zero (passes (allowed_frame f)) 1 _ (omega arith) e in
      let (n, e₂) = need_zero (ℕ_discrete (length slots) (slot_count f)) 2 _ (omega arith) e₁ in
      let (l, _) = need_zero (dec_le (length payload) (area_size f - 4)) 6 _ (omega arith) e₂ in
      let limits = frame_kept f (passed _ a) in
      record { limits = limits; slots_size = n; fits = omega (arith, limits.room) }

  pub send_setting : allowed_frame f ≡ false → 1 ≡ send_refusal f payload slots
  unfolding send_refusal
  send_setting a = need_no _ _ _ λ t. rw a at t

  pub send_length : FrameAllowed f → (length slots ≡ slot_count f → ⊥) → 2 ≡ send_refusal f payload slots
  unfolding send_refusal
  send_length a n = need_yes _ _ _ _ (is_allowed f a) (need_no _ _ _ n)

  pub send_long : FrameAllowed f → length slots ≡ slot_count f → (length payload ≤ area_size f - 4 → ⊥) → 6 ≡ send_refusal f payload slots
  unfolding send_refusal
  send_long a n l = need_yes _ _ _ _ (is_allowed f a) (need_yes _ _ _ _ n (need_no _ _ _ l))

  pub send_passes : SendChecked f payload slots → 0 ≡ send_refusal f payload slots
  unfolding send_refusal
  send_passes c = need_yes _ _ _ _ (is_allowed f c.limits) (need_yes _ _ _ _ c.slots_size (need_yes _ _ _ _ (omega (arith, c.fits)) refl))

-- what the check tells: what is known once it has passed, or the refusal
abbrev pub SendTold : Framing → (payload slots : List ℕ) → Result (Unit {0}) SendError → Type 0
SendTold f payload slots (Ok u) = SendChecked f payload slots
SendTold f payload slots (Err e) = sent_number (Err e) ≡ send_refusal f payload slots

-- ---- before a frame is received

pub record ReceiveChecked (f : Framing) (slots marks area map : List ℕ) : Type 0 where
  pub limits : FrameAllowed f
  pub slots_size : length slots ≡ slot_count f
  pub marks_size : length marks ≡ slot_count f
  pub marks_small : T (below 2 marks)
  pub area_size_lem : length area ≡ area_size f
  pub map_size : length map ≡ slot_count f

module _ (f : Framing) (slots marks area map : List ℕ) where
  pub receive_setting : allowed_frame f ≡ false → 1 ≡ receive_refusal f slots marks area map
  unfolding receive_refusal
  receive_setting a = need_no _ _ _ λ t. rw a at t

  pub receive_slots : allowed_frame f ≡ true → (length slots ≡ slot_count f → ⊥) → 2 ≡ receive_refusal f slots marks area map
  unfolding receive_refusal
  receive_slots a n = need_yes _ _ _ _ (rw a tt) (need_no _ _ _ n)

  -- one of the four lengths is another
  pub receive_length : FrameAllowed f → (length slots ≡ slot_count f → length marks ≡ slot_count f → length area ≡ area_size f → length map ≡ slot_count f → ⊥)
      → 2 ≡ receive_refusal f slots marks area map
  unfolding receive_refusal
  receive_length a h =
      need_yes _ _ _ _ (is_allowed f a) (elim (ℕ_discrete (length slots) (slot_count f)) [
        | no n ↦ need_no _ _ _ n
        | yes n ↦ need_yes _ _ _ _ n (elim (ℕ_discrete (length marks) (slot_count f)) [
          | no m ↦ need_no _ _ _ m
          | yes m ↦ need_yes _ _ _ _ m (elim (ℕ_discrete (length area) (area_size f)) [
            | no k ↦ need_no _ _ _ k
            | yes k ↦ need_yes _ _ _ _ k (need_no _ _ _ (h n m k))
          ])
        ])
      ])

  pub receive_mark : FrameAllowed f → length slots ≡ slot_count f → length marks ≡ slot_count f → length area ≡ area_size f → length map ≡ slot_count f → below 2 marks ≡ false
      → 3 ≡ receive_refusal f slots marks area map
  unfolding receive_refusal
  receive_mark a n m k l b =
      need_yes _ _ _ _ (is_allowed f a) (need_yes _ _ _ _ n (need_yes _ _ _ _ m (need_yes _ _ _ _ k (need_yes _ _ _ _ l (need_no _ _ _ λ t. rw b at t)))))

  pub receive_checked : receive_refusal f slots marks area map ≡ 0 → ReceiveChecked f slots marks area map
  unfolding receive_refusal
  receive_checked e =
      let (a, e₁) = need_zero (passes (allowed_frame f)) 1 _ (omega arith) e in
      let (n, e₂) = need_zero (ℕ_discrete (length slots) (slot_count f)) 2 _ (omega arith) e₁ in
      let (m, e₃) = need_zero (ℕ_discrete (length marks) (slot_count f)) 2 _ (omega arith) e₂ in
      let (k, e₄) = need_zero (ℕ_discrete (length area) (area_size f)) 2 _ (omega arith) e₃ in
      let (l, e₅) = need_zero (ℕ_discrete (length map) (slot_count f)) 2 _ (omega arith) e₄ in
      let (b, _) = need_zero (passes (below 2 marks)) 3 _ (omega arith) e₅ in
      record { limits = frame_kept f (passed _ a); slots_size = n; marks_size = m; marks_small = b; area_size_lem = k; map_size = l }

  pub receive_passes : ReceiveChecked f slots marks area map → 0 ≡ receive_refusal f slots marks area map
  unfolding receive_refusal
  receive_passes c =
      need_yes _ _ _ _ (is_allowed f c.limits)
      (need_yes _ _ _ _ c.slots_size (need_yes _ _ _ _ c.marks_size (need_yes _ _ _ _ c.area_size_lem (need_yes _ _ _ _ c.map_size (need_yes _ _ _ _ c.marks_small refl)))))

  -- a refusal by the checks names no word
  receive_most : receive_refusal f slots marks area map ≤ 3
  unfolding receive_refusal
  receive_most =
      let few : ℕ → Type 0 = λ k. k ≤ 3 in
      need_either _ 1 _ few (omega arith)
      (need_either _ 2 _ few (omega arith) (need_either _ 2 _ few (omega arith) (need_either _ 2 _ few (omega arith)
      (need_either _ 2 _ few (omega arith) (need_either _ 3 0 few (omega arith) (omega arith))))))

  pub refused_no_word : (e : ReceiveError) → error_number e ≡ receive_refusal f slots marks area map → error_word e ≡ 0
  refused_no_word BadSetting h = refl
  refused_no_word BadLength h = refl
  refused_no_word BadMark h = refl
  refused_no_word (BeyondReach w) h = absurd (omega (arith, receive_most))
  refused_no_word BadTrailer h = refl

-- what the check tells
abbrev pub ReceiveTold : Framing → (slots marks area map : List ℕ) → Result (Unit {0}) ReceiveError → Type 0
ReceiveTold f slots marks area map (Ok u) = ReceiveChecked f slots marks area map
ReceiveTold f slots marks area map (Err e) = error_number e ≡ receive_refusal f slots marks area map

-- ---- before a frame is asked about

pub record CleanChecked (f : Framing) (slots : List ℕ) : Type 0 where
  pub limits : FrameAllowed f
  pub slots_size : length slots ≡ slot_count f

module _ (f : Framing) (slots : List ℕ) where
  most : clean_refusal f slots ≤ 2
  unfolding clean_refusal
  most =
      let few : ℕ → Type 0 = λ k. k ≤ 2 in
      need_either _ 1 _ few (omega arith) (need_either _ 2 0 few (omega arith) (omega arith))

  passed_both : clean_refusal f slots ≡ 0 → CleanChecked f slots
  unfolding clean_refusal
  passed_both e =
      let (a, e₁) = need_zero (passes (allowed_frame f)) 1 _ (omega arith) e in
      let (n, _) = need_zero (ℕ_discrete (length slots) (slot_count f)) 2 _ (omega arith) e₁ in
      record { limits = frame_kept f (passed _ a); slots_size = n }

  pub clean_checked : (k : ℕ) → k ≡ clean_refusal f slots → (k ≡ 1 → ⊥) → (k ≡ 2 → ⊥) → CleanChecked f slots
  clean_checked k e a b = passed_both (omega (arith, most))

  pub clean_setting : allowed_frame f ≡ false → 1 ≡ clean_refusal f slots
  unfolding clean_refusal
  clean_setting a = need_no _ _ _ λ t. rw a at t

  pub clean_length : FrameAllowed f → (length slots ≡ slot_count f → ⊥) → 2 ≡ clean_refusal f slots
  unfolding clean_refusal
  clean_length a n = need_yes _ _ _ _ (is_allowed f a) (need_no _ _ _ n)

  pub clean_met : FrameAllowed f → length slots ≡ slot_count f → CleanChecked f slots
  clean_met a n = record { limits = a; slots_size = n }

  pub clean_passes : CleanChecked f slots → 0 ≡ clean_refusal f slots
  unfolding clean_refusal
  clean_passes c = need_yes _ _ _ _ (is_allowed f c.limits) (need_yes _ _ _ _ c.slots_size refl)

-- what the check tells
abbrev pub CleanTold : Framing → (slots : List ℕ) → Result (Unit {0}) CleanError → Type 0
CleanTold f slots (Ok u) = CleanChecked f slots
CleanTold f slots (Err e) = clean_number {A = Unit {0}} (Err e) ≡ clean_refusal f slots

-- for the checks' own proofs
pub ruleset told = (small_kept, frame_kept, send_setting, send_length, send_long, receive_setting, receive_length, receive_mark, clean_setting, clean_length, clean_met)
