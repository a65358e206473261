-- A register fed several symbols in one turn: it is moved by as many places, and each symbol leaves a row that depends on nothing else.
-- Assumes nothing.
use Rattle.std.specs.Prelude.{◌≡◌}
use Rattle.std.proofs.Math.Path.{refl, ap₂}
use Rattle.std.proofs.Common.{◌∙◌}
use Prim.Native.Nat.{ℕ, zero, suc}
use Rattle.algebra.specs.Ring.{Ring, ring}

module _ (K : Ring) where
  infixl 65 ◌⊕◌
  infixl 70 ◌⊗◌
  open K use {F, ◌⊕◌, ◌⊗◌, 𝟘}

  module _ (g : ℕ → F) where
    -- a register's entries after the symbol s
    unfoldable pub after : F → (ℕ → F) → ℕ → F
    after s reg i = reg (suc i) ⊕ g i ⊗ (s ⊕ reg zero)

    -- what f leaves that falls out with k symbols more behind it in the same turn
    unfoldable pub row : ℕ → F → ℕ → F
    row zero f i = g i ⊗ f
    row (suc k) f i = after 𝟘 (row k f) i

    pub after_ext : (s : F) (u v : ℕ → F) (i : ℕ) → ((j : ℕ) → u j ≡ v j) → after s u i ≡ after s v i
    unfolding after
    after_ext s u v i e = ap₂ (λ x y. x ⊕ g i ⊗ (s ⊕ y)) (e (suc i)) (e zero)

    -- a register that is a sum: the symbol goes with one part, and the other is fed a zero
    pub after_add : (s : F) (u v : ℕ → F) (i : ℕ) → after s (λ j. u j ⊕ v j) i ≡ after s u i ⊕ after 𝟘 v i
    unfolding after
    after_add s u v i = simp (ring, K)

    pub after_one : (s : F) (u : ℕ → F) (i : ℕ) → after s u i ≡ u (suc i) ⊕ row zero (s ⊕ u zero) i
    unfolding after row
    after_one s u i = refl

    row_more : (k : ℕ) (f : F) (i : ℕ) → after 𝟘 (row k f) i ≡ row (suc k) f i
    unfolding row
    row_more k f i = refl

    -- a row of a sum is the sum of the rows: a table of digits is enough
    pub row_add : (k : ℕ) (x y : F) (i : ℕ) → row k (x ⊕ y) i ≡ row k x i ⊕ row k y i
    unfolding row
    row_add zero x y i = simp (ring, K)
    row_add (suc k) x y i = after_ext 𝟘 (row k (x ⊕ y)) (λ j. row k x j ⊕ row k y j) i (λ j. row_add k x y j) ∙ after_add 𝟘 (row k x) (row k y) i

    pub after_two : (a b : F) (u : ℕ → F) (i : ℕ) → after b (after a u) i ≡ u (suc (suc i)) ⊕ row zero (b ⊕ u 1) i ⊕ row 1 (a ⊕ u zero) i
    after_two a b u i =
        after_ext b (after a u) (λ j. u (suc j) ⊕ row zero (a ⊕ u zero) j) i (λ j. after_one a u j)
        ∙ after_add b (λ j. u (suc j)) (row zero (a ⊕ u zero)) i ∙ rw (after_one b (λ j. u (suc j)) i, row_more zero (a ⊕ u zero) i)

    -- four symbols: two turns of two
    pub after_four : (a b c d : F) (u : ℕ → F) (i : ℕ)
        → after d (after c (after b (after a u))) i
        ≡ u (suc (suc (suc (suc i)))) ⊕ row zero (d ⊕ u 3) i ⊕ row 1 (c ⊕ u 2) i ⊕ (row 2 (b ⊕ u 1) i ⊕ row 3 (a ⊕ u zero) i)
    after_four a b c d u i =
        let v : ℕ → F = λ j. u (suc (suc j)) in
        let w : ℕ → F = λ j. row zero (b ⊕ u 1) j ⊕ row 1 (a ⊕ u zero) j in
        let x : (j : ℕ) → after b (after a u) j ≡ v j ⊕ w j = λ j. after_two a b u j ∙ K.add_assoc _ _ _ in
        let y : (j : ℕ) → after c (after b (after a u)) j ≡ after c v j ⊕ after 𝟘 w j =
        λ j. after_ext c (after b (after a u)) (λ k. v k ⊕ w k) j x ∙ after_add c v w j in
        let z : (j : ℕ) → after 𝟘 w j ≡ row 1 (b ⊕ u 1) j ⊕ row 2 (a ⊕ u zero) j =
        λ j. after_add 𝟘 (row zero (b ⊕ u 1)) (row 1 (a ⊕ u zero)) j ∙ rw (row_more zero (b ⊕ u 1) j, row_more 1 (a ⊕ u zero) j) in
        let t : after 𝟘 (after 𝟘 w) i ≡ row 2 (b ⊕ u 1) i ⊕ row 3 (a ⊕ u zero) i =
        after_ext 𝟘 (after 𝟘 w) (λ j. row 1 (b ⊕ u 1) j ⊕ row 2 (a ⊕ u zero) j) i z ∙ after_add 𝟘 (row 1 (b ⊕ u 1)) (row 2 (a ⊕ u zero)) i
        ∙ rw (row_more 1 (b ⊕ u 1) i, row_more 2 (a ⊕ u zero) i) in
        after_ext d (after c (after b (after a u))) (λ j. after c v j ⊕ after 𝟘 w j) i y ∙ after_add d (after c v) (after 𝟘 w) i
        ∙ rw (after_two c d v i, t)
