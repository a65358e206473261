-- Steps of different branches share no cell, so they may be taken in any order: all of one branch, and then all of the next.
-- Assumes nothing.
use mathlib.Core.Path.{◌≡◌, refl, sym, ap, ◌∙◌}
use mathlib.Core.Logic.{◌≢◌}
use Prim.Native.Nat.{ℕ, zero, suc, ◌+◌, ◌%◌, ◌≤◌, ◌<◌}
use native.Mathlib.Decide.{ℕ_discrete, dec_lt}
use native.Mathlib.Omega.{arith}
use lib.Seq.{get_or-set_other, set_comm}
use Rattle.algebra.specs.Sets.{put_yes, put_no}
use Rattle.rings.specs.Branch.{Lent, swapped, taken}

-- two swaps of different bytes with different cells, in either order
swap_either : (k c i l d j : ℕ) (x : Lent) → i ≢ j → (0 < k → 0 < l → c ≢ d) → swapped k c i (swapped l d j x) ≡ swapped l d j (swapped k c i x)
swap_either zero c i l d j x h g = refl
swap_either (suc k) c i zero d j x h g = refl
swap_either (suc k) c i (suc l) d j x h g =
    let m = x.memory in
    let bs = x.bytes in
    let ne : c ≢ d = g (omega arith) (omega arith) in
    rw (get_or-set_other bs j i _ 0 h, get_or-set_other m d c _ 0 ne, get_or-set_other bs i j _ 0 (λ e. h (sym e)), get_or-set_other m c d _ 0 (λ e. ne (sym e)), set_comm m d c _ _ (λ e. ne (sym e)), set_comm bs j i _ _ (λ e. h (sym e))) refl

module _ {P : ℕ → Type 0} (P? : (i : ℕ) → Dec (P i)) (k c : ℕ → ℕ) where
  pub taken_yes : (i : ℕ) (x : Lent) → P i → taken P? k c (suc i) x ≡ swapped (k i) (c i) i (taken P? k c i x)
  unfolding taken
  taken_yes i x h = put_yes (P? i) _ _ h

  taken_no : (i : ℕ) (x : Lent) → ¬ P i → taken P? k c (suc i) x ≡ taken P? k c i x
  unfolding taken
  taken_no i x h = put_no (P? i) _ _ h

  -- where no step is chosen, nothing changes
  pub taken_still : (a b : ℕ) (x : Lent) → a ≤ b → ((j : ℕ) → a ≤ j → j < b → ¬ P j) → taken P? k c b x ≡ taken P? k c a x
  taken_still a zero x h g = let e : 0 ≡ a = omega arith in ap (λ (z : ℕ). taken P? k c z x) e
  taken_still a (suc b) x h g = elim (ℕ_discrete (suc b) a) [
    | yes e ↦ ap (λ (z : ℕ). taken P? k c z x) e
    | no ne ↦ taken_no b x (g b (omega arith) (omega arith)) ∙ taken_still a b x (omega arith) (λ j u v. g j u (omega arith))
  ]

  -- without rings nothing changes
  pub taken_idle : (n : ℕ) (x : Lent) → ((i : ℕ) → k i ≡ 0) → taken P? k c n x ≡ x
  unfolding taken
  taken_idle zero x h = refl
  taken_idle (suc n) x h = elim (P? n) [
    | yes p ↦ put_yes (P? n) _ _ p ∙ rw (h n) (taken_idle n x h)
    | no p ↦ put_no (P? n) _ _ p ∙ taken_idle n x h
  ]

  -- the same steps at the same cells
  pub taken_same : (l d : ℕ → ℕ) (n : ℕ) (x : Lent) → ((i : ℕ) → P i → (k i ≡ l i) × (c i ≡ d i)) → taken P? k c n x ≡ taken P? l d n x
  unfolding taken
  taken_same l d zero x h = refl
  taken_same l d (suc n) x h = elim (P? n) [
    | yes p ↦ rw (taken_same l d n x h, (h n p).0, (h n p).1) refl
    | no p ↦ put_no (P? n) _ _ p ∙ taken_same l d n x h ∙ sym (put_no (P? n) _ _ p)
  ]

  -- a step that shares no cell with those chosen may as well come after them
  taken_later : (n l d j : ℕ) (x : Lent) → ((i : ℕ) → i < n → P i → (i ≢ j) × (0 < k i → 0 < l → c i ≢ d)) → taken P? k c n (swapped l d j x) ≡ swapped l d j (taken P? k c n x)
  unfolding taken
  taken_later zero l d j x h = refl
  taken_later (suc n) l d j x h =
      let before : taken P? k c n (swapped l d j x) ≡ swapped l d j (taken P? k c n x) = taken_later n l d j x (λ i u p. h i (omega arith) p) in
      elim (P? n) [
        | yes p ↦
            let (other, apart) = h n (omega arith) p in
            put_yes (P? n) _ _ p
            ∙ ap (swapped (k n) (c n) n) before
            ∙ swap_either (k n) (c n) n l d j (taken P? k c n x) other apart
            ∙ ap (swapped l d j) (sym (put_yes (P? n) _ _ p))
        | no p ↦ put_no (P? n) _ _ p ∙ before ∙ ap (swapped l d j) (sym (put_no (P? n) _ _ p))
      ]

-- the steps of branch f after those of the branches before it
module _ (I : ℕ) (k c : ℕ → ℕ) (apart : (i j : ℕ) → i % I ≢ j % I → 0 < k i → 0 < k j → c i ≢ c j) (f : ℕ) (x : Lent) where
  pub branch_more : (n : ℕ) → taken (λ i. ℕ_discrete (i % I) f) k c n (taken (λ i. dec_lt (i % I) f) k c n x) ≡ taken (λ i. dec_lt (i % I) (f + 1)) k c n x
  unfolding taken
  branch_more zero = refl
  branch_more (suc n) = elim (ℕ_discrete (n % I) f) [
    | yes e ↦
        ap (taken (λ i. ℕ_discrete (i % I) f) k c (suc n)) (put_no (dec_lt (n % I) f) _ _ (λ h. omega arith))
        ∙ put_yes (ℕ_discrete (n % I) f) _ _ e
        ∙ ap (swapped (k n) (c n) n) (branch_more n)
        ∙ sym (put_yes (dec_lt (n % I) (f + 1)) _ _ (omega arith))
    | no ne ↦ elim (dec_lt (n % I) f) [
      | yes h ↦
          ap (taken (λ i. ℕ_discrete (i % I) f) k c (suc n)) (put_yes (dec_lt (n % I) f) _ _ h)
          ∙ put_no (ℕ_discrete (n % I) f) _ _ ne
          ∙ taken_later (λ i. ℕ_discrete (i % I) f) k c n (k n) (c n) n _ (λ i u e. (λ g. omega arith, apart i n (λ g. ne (sym g ∙ e))))
          ∙ ap (swapped (k n) (c n) n) (branch_more n)
          ∙ sym (put_yes (dec_lt (n % I) (f + 1)) _ _ (omega arith))
      | no h ↦
          ap (taken (λ i. ℕ_discrete (i % I) f) k c (suc n)) (put_no (dec_lt (n % I) f) _ _ h)
          ∙ put_no (ℕ_discrete (n % I) f) _ _ ne
          ∙ branch_more n
          ∙ sym (put_no (dec_lt (n % I) (f + 1)) _ _ (λ g. omega arith))
    ]
  ]
