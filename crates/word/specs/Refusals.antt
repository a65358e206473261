-- The checks that stand before a call's work (document 01, Numbers a call can answer): what is known once none has failed, and which calls
-- none fails.
-- Assumes nothing.
use Rattle.std.specs.Prelude.{◌≡◌, refl, false, List, length, T}
use Prim.Native.Nat.{ℕ, ◌≤◌, ◌^◌}
use Rattle.std.proofs.Math.Decide.{ℕ_discrete}
use Rattle.std.proofs.Common.{arith}
use Rattle.algebra.specs.Tests.{below}
use Rattle.algebra.specs.Refusal as Refusal
use Rattle.algebra.specs.Refusal.{need_yes, need_no, need_zero, need_either}
use Rattle.word.specs.Setting.{allowed, message_size}
use Rattle.word.specs.Answers.{encode_refusal, decode_refusal, part_refusal}
use Rattle.word.specs.Clean.{clean_refusal}
use Rattle.word.specs.declared.Setting.{Setting}

not_allowed : (s : Setting) → allowed s ≡ false → ¬ T (allowed s)
not_allowed s a t = rw a at t

-- ---- before a message is encoded

pub record MessageChecked (s : Setting) (message word : List ℕ) : Type 0 where
  pub setting : T (allowed s)
  pub size : length message ≡ message_size s
  pub word_size : length word ≡ s.n
  pub small : T (below (2 ^ s.m) message)

module _ (s : Setting) (message word : List ℕ) where
  pub encode_setting : allowed s ≡ false → 1 ≡ encode_refusal s message word
  unfolding encode_refusal
  encode_setting a = need_no _ _ _ (not_allowed s a)

  pub message_checked : encode_refusal s message word ≡ 0 → MessageChecked s message word
  unfolding encode_refusal
  message_checked e =
      let (a, e₁) = need_zero (Refusal.passes (allowed s)) 1 _ (omega arith) e in
      let (n, e₂) = need_zero (ℕ_discrete (length message) (message_size s)) 2 _ (omega arith) e₁ in
      let (k, e₃) = need_zero (ℕ_discrete (length word) s.n) 2 _ (omega arith) e₂ in
      let (b, _) = need_zero (Refusal.passes (below (2 ^ s.m) message)) 3 _ (omega arith) e₃ in
      record { setting = a; size = n; word_size = k; small = b }

  pub message_passes : MessageChecked s message word → 0 ≡ encode_refusal s message word
  unfolding encode_refusal
  message_passes c = need_yes _ _ _ _ c.setting (need_yes _ _ _ _ c.size (need_yes _ _ _ _ c.word_size (need_yes _ _ _ _ c.small refl)))

-- ---- before a received word is looked at

pub record Checked (s : Setting) (marks received : List ℕ) : Type 0 where
  pub setting : T (allowed s)
  pub size : length received ≡ s.n
  pub marks_size : length marks ≡ s.n
  pub small : T (below (2 ^ s.m) received)
  pub marks_small : T (below 2 marks)

module _ (s : Setting) (received marks map : List ℕ) where
  pub decode_setting : allowed s ≡ false → 1 ≡ decode_refusal s received marks map
  unfolding decode_refusal
  decode_setting a = need_no _ _ _ (not_allowed s a)

  pub decode_most : decode_refusal s received marks map ≤ 3
  unfolding decode_refusal
  decode_most =
      let most : ℕ → Type 0 = λ k. k ≤ 3 in
      need_either _ 1 _ most (omega arith)
      (need_either _ 2 _ most (omega arith) (need_either _ 2 _ most (omega arith) (need_either _ 2 _ most (omega arith)
      (need_either _ 3 _ most (omega arith) (need_either _ 3 0 most (omega arith) (omega arith))))))

  pub checked : decode_refusal s received marks map ≡ 0 → (length map ≡ s.n) × Checked s marks received
  unfolding decode_refusal
  checked e =
      let (a, e₁) = need_zero (Refusal.passes (allowed s)) 1 _ (omega arith) e in
      let (n, e₂) = need_zero (ℕ_discrete (length received) s.n) 2 _ (omega arith) e₁ in
      let (k, e₃) = need_zero (ℕ_discrete (length marks) s.n) 2 _ (omega arith) e₂ in
      let (l, e₄) = need_zero (ℕ_discrete (length map) s.n) 2 _ (omega arith) e₃ in
      let (b, e₅) = need_zero (Refusal.passes (below (2 ^ s.m) received)) 3 _ (omega arith) e₄ in
      let (f, _) = need_zero (Refusal.passes (below 2 marks)) 3 _ (omega arith) e₅ in
      (l, record { setting = a; size = n; marks_size = k; small = b; marks_small = f })

  pub passes : length map ≡ s.n → Checked s marks received → 0 ≡ decode_refusal s received marks map
  unfolding decode_refusal
  passes l c =
      need_yes _ _ _ _ c.setting
      (need_yes _ _ _ _ c.size (need_yes _ _ _ _ c.marks_size (need_yes _ _ _ _ l (need_yes _ _ _ _ c.small (need_yes _ _ _ _ c.marks_small refl)))))

-- ---- and before it goes to a part

module _ (s : Setting) (received marks part map : List ℕ) where
  pub part_setting : allowed s ≡ false → 1 ≡ part_refusal s received marks part map
  unfolding part_refusal
  part_setting a = need_no _ _ _ (not_allowed s a)

  pub part_checked : part_refusal s received marks part map ≡ 0 → (length part ≡ message_size s) × (length map ≡ s.n) × Checked s marks received
  unfolding part_refusal
  part_checked e =
      let (a, e₁) = need_zero (Refusal.passes (allowed s)) 1 _ (omega arith) e in
      let (n, e₂) = need_zero (ℕ_discrete (length part) (message_size s)) 2 _ (omega arith) e₁ in
      let (l, c) = checked s received marks map e₂ in
      (n, l, c)

  pub part_passes : length part ≡ message_size s → length map ≡ s.n → Checked s marks received → 0 ≡ part_refusal s received marks part map
  unfolding part_refusal
  part_passes n l c = need_yes _ _ _ _ c.setting (need_yes _ _ _ _ n (passes s received marks map l c))

-- ---- before a word is asked about

pub record WordChecked (s : Setting) (word : List ℕ) : Type 0 where
  pub setting : T (allowed s)
  pub size : length word ≡ s.n
  pub small : T (below (2 ^ s.m) word)

module _ (s : Setting) (word : List ℕ) where
  pub word_checked : clean_refusal s word ≡ 0 → WordChecked s word
  unfolding clean_refusal
  word_checked e =
      let (a, e₁) = need_zero (Refusal.passes (allowed s)) 1 _ (omega arith) e in
      let (n, e₂) = need_zero (ℕ_discrete (length word) s.n) 2 _ (omega arith) e₁ in
      let (b, _) = need_zero (Refusal.passes (below (2 ^ s.m) word)) 3 _ (omega arith) e₂ in
      record { setting = a; size = n; small = b }

  pub word_passes : WordChecked s word → 0 ≡ clean_refusal s word
  unfolding clean_refusal
  word_passes c = need_yes _ _ _ _ c.setting (need_yes _ _ _ _ c.size (need_yes _ _ _ _ c.small refl))
