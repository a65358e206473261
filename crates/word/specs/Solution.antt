-- What the steps of the decoder establish together: the word they make is the one codeword that qualifies, if there is one; and what is
-- left of the power sums tells whether it is a codeword.
-- Assumes nothing.
use Rattle.std.specs.Prelude.{◌≡◌, refl, ◌⊎◌, ◌≢◌, List, ℕ, zero, suc, ◌+◌, ◌-◌, ◌*◌, ◌%◌, ◌^◌, ◌≤◌, ◌<◌, length, T}
use Rattle.std.proofs.Common.{sym, ◌∙◌, mod-eq_of_lt, ext_get_or, pow_pos}
use Rattle.std.proofs.Math.Decide.{dec_lt}
use native.Mathlib.Omega.{arith}
use Rattle.std.specs.Int.Bits.{bit_xor, xor_self}
use Rattle.std.proofs.lemmas.Nat.{xor_lt}
use Rattle.algebra.specs.Sets.{one, count, count_mono, count_lt}
use Rattle.algebra.specs.Tests.{at, total, below, total_first, below_at, below_all}
use Rattle.algebra.specs.Xor.{same_below}
use Rattle.algebra.specs.Ring.{Ring, ring, Z-trans, Z-sym, Z-other}
use Rattle.algebra.specs.Polynomials.{ev}
use Rattle.algebra.specs.Peel.{Places, Rep, peels, peels_same, far, far_same, far_cancel}
use Rattle.algebra.specs.Horner.{pow, horner, coef, syndromes}
use Rattle.algebra.specs.Decoding.{Run, cand, others, cand_few, decoded}
use Rattle.field.specs.Elements.{wide}
use Rattle.field.proofs.Elements.{K}
use Rattle.word.specs.Setting.{Allowed, limits}
use Rattle.checks.specs.Roots.{spots}
use Rattle.decoder.specs.Places.{locator, flagged, spare}
use Rattle.word.specs.Word.{marked}
use Rattle.word.specs.Codeword.{Codeword, InReach}
use Rattle.word.specs.Distance.{own_field, spots_apart, codeword_sums, marks_few, errors_few}
use Rattle.word.specs.Completion.{codeword_from}
use Rattle.word.specs.Refusals.{Checked}
use Rattle.decoder.specs.Peeling.{PeeledAll}
use Rattle.decoder.specs.Elimination.{KernelVector}
use Rattle.decoder.specs.Candidates.{Candidates}
use Rattle.decoder.specs.Corrections.{Fixed, Corrected, weight_of}
use Rattle.word.specs.declared.Setting.{Setting}

-- ---- the marks are as many as the set that they flag

one_ge : {P : Type 0} (w : Dec P) (x : ℕ) → x ≤ 1 → (0 < x → P) → x ≤ one w
unfolding one
one_ge (yes p) x h f = h
one_ge (no p) x h f = elim (dec_lt 0 x) [ yes l ↦ absurd (p (f l)) | no l ↦ omega arith ]

total_count : {P : ℕ → Type 0} (q : (k : ℕ) → Dec (P k)) (n : ℕ) (f : ℕ → ℕ) → ((i : ℕ) → i < n → f i ≤ 1) → ((i : ℕ) → i < n → 0 < f i → P (n - suc i)) → total n f ≤ count q n
unfolding count total
total_count q zero f b h = omega arith
total_count {P} q (suc n) f b h =
    let e : suc n - 1 ≡ n = omega arith in
    omega (
      arith,
      total_first n f,
      one_ge (q n) (f 0) (b 0 (omega arith)) (rw e at (h 0 (omega arith))),
      total_count q n (λ i. f (suc i)) (λ i l. b (suc i) (omega arith)) λ i l p. let g : suc n - suc (suc i) ≡ n - suc i = omega arith in rw g at (h (suc i) (omega arith) p),
    )

-- ---- in any ring

module _ (K : Ring) where
  infixl 65 ◌⊕◌
  open K use {F, ◌⊕◌, 𝟘, Z}

  change : (x e : F) → x ⊕ e ⊕ x ≡ e
  change x e = simp (ring, K)

  -- two sequences of power sums of one word count as equal
  Rep-both : (ℒ : Places K) (m : ℕ) (L M c : ℕ → F) → Rep K ℒ m L c → Rep K ℒ m M c → (j : ℕ) → j < m → Z (L j ⊕ M j)
  Rep-both ℒ m L M c p q j l = Z-trans K _ _ _ (p j l) (Z-sym K _ _ (q j l))

module _ (s : Setting) (marks received : List ℕ) (ch : Checked s marks received) where
  abbrev ok : Allowed s
  ok = limits s ch.setting

  back : (k : ℕ) → k < s.n → s.n - suc (s.n - suc k) ≡ k
  back k l = omega arith

  small_at : (i : ℕ) → at received i < 2 ^ wide s.m
  small_at i = rw (own_field s ok) (below_at _ received ch.small i (pow_pos s.m))

  marks_exact : count (flagged marks s.n) s.n ≡ marked marks received
  unfolding marked
  marks_exact =
      let few : count (flagged marks s.n) s.n ≤ marked marks received = marks_few s ok marks received ch.size in
      let most : total (length received) (λ i. at marks i) ≤ count (flagged marks s.n) s.n =
      rw ch.size (total_count (flagged marks s.n) s.n (λ i. at marks i) (λ i l. omega (arith, below_at 2 marks ch.marks_small i (omega arith))) λ i l p. rw (back i l) p) in
      omega arith

  module _ (t : ℕ) (lo : marked marks received + 2 * t ≤ s.r) (hi : s.r ≤ suc (marked marks received + 2 * t)) (S P v C out rest : List ℕ)
      (sums : Rep (K s.m) (spots s.m s.n s.b) s.r (λ j. at S j) (coef (K s.m) received)) (peeled : PeeledAll s.m s.n marks s.n S P) (kern : KernelVector s.m t P v)
      (cands : Candidates s.m s.n marks v (suc t) C) (fix : Corrected s.m s.n s.b C S received out rest) where
    abbrev m : ℕ
    m = s.m

    abbrev n : ℕ
    n = s.n

    abbrev ℒ : Places (K m)
    ℒ = spots m n s.b

    abbrev Cand : ℕ → Type 0
    Cand k = (0 < at marks (n - suc k)) ⊎ (ev (K m) (suc t) (λ l. at v l) (locator m k) % 2 ^ wide m ≡ 0)

    sound : (k : ℕ) → k < n → 0 < at C (n - suc k) → Cand k
    sound k l p = rw (back k l) at (cands.sound (n - suc k) (omega arith) p)

    complete : (k : ℕ) → k < n → Cand k → 0 < at C (n - suc k)
    complete k l p = cands.complete (n - suc k) (omega arith) (rw (back k l) p)

    -- the flags but place p are the other candidates
    spare_others : (k : ℕ) → k < n → (i : ℕ) → i < n → (0 < at C (n - suc i)) × (n - suc i ≢ n - suc k) → Cand i × (i ≢ k)
    spare_others k l i h p = (sound i h p.0, λ e. p.1 (rw e))

    others_spare : (k : ℕ) → k < n → (i : ℕ) → i < n → Cand i × (i ≢ k) → (0 < at C (n - suc i)) × (n - suc i ≢ n - suc k)
    others_spare k l i h p = (complete i h p.0, λ e. p.1 (omega arith))

    few : (k : ℕ) → k < n → Cand k → count (spare C (n - suc k) n) n < 16
    few k l p = omega (
      arith,
      ok.high,
      lo,
      marks_exact,
      cand_few (K m) ℒ (flagged marks n) (spots_apart s ok) t (λ j. at P j) (λ j. at v j) kern.degree kern.fine,
      count_lt (spare C (n - suc k) n) (cand (K m) ℒ (flagged marks n) t (λ j. at v j)) n k l (λ b. b.1 refl) p (λ i a b. sound i a b.0),
    )

    out_received : (k : ℕ) → coef (K m) out k ≡ at out (n - suc k)
    out_received k = rw fix.size

    received_at : (k : ℕ) → coef (K m) received k ≡ at received (n - suc k)
    received_at k = rw ch.size

    -- at a candidate the value is what the other candidates leave
    fixed_at : (k : ℕ) → k < n → Cand k
        → bit_xor ((K m).◌⊗◌ (bit_xor (coef (K m) out k) (coef (K m) received k)) (far (K m) (λ i. locator m i) (others (K m) ℒ (flagged marks n) t (λ j. at v j) k) n k (weight_of m s.b k)))
        (peels (K m) (λ i. locator m i) (others (K m) ℒ (flagged marks n) t (λ j. at v j) k) n (λ j. at S j) 0) % 2 ^ wide m ≡ 0
    fixed_at k l p =
        let i : ℕ = n - suc k in
        let f : Fixed m n s.b C S received out i = fix.fixed i (omega arith) (complete k l p) in
        let e : bit_xor (coef (K m) out k) (coef (K m) received k) ≡ f.error = rw (out_received k, received_at k, f.changed) (change (K m) (at received i) f.error) in
        let far_away : ¬ (far (K m) (λ j. locator m j) (spare C i n) n k (weight_of m s.b k) % 2 ^ wide m ≡ 0) =
        λ z. (spots_apart s ok).wt k l (far_cancel (K m) ℒ (spare C i n) n k (weight_of m s.b k) (λ j a b. (spots_apart s ok).sep k j l a λ g. b.1 (rw g refl)) z) in
        rw (
          e,
          ← far_same (K m) (λ j. locator m j) (spare C i n) (others (K m) ℒ (flagged marks n) t (λ j. at v j) k) n k (weight_of m s.b k) (spare_others k l) (others_spare k l),
          ← peels_same (K m) (λ j. locator m j) (spare C i n) (others (K m) ℒ (flagged marks n) t (λ j. at v j) k) n (λ j. at S j) 0 (spare_others k l) (others_spare k l),
        )
        ((rw (back k l) at f.right.value) far_away (few k l p))

    run : Run (K m) ℒ (flagged marks n) s.r (coef (K m) received) t (λ j. at S j) (λ j. at P j) (λ j. at v j) (coef (K m) out) kern.degree
    run = record {
      lo = omega (arith, lo, marks_exact);
      hi = omega (arith, hi, marks_exact);
      syndromes = sums;
      peeled = λ j l. peeled j (omega (arith, ok.high, count_mono (spare marks n n) (flagged marks n) n (λ k a b. b.0)))
          ∙ peels_same (K m) (λ k. locator m k) (spare marks n n) (flagged marks n) n (λ j. at S j) j (λ k a b. b.0) (λ k a b. (b, λ e. omega arith));
      kern = kern.fine;
      kept = λ k l no_cand. rw (out_received k, received_at k, fix.kept (n - suc k) (omega arith) (λ p. no_cand (sound k l p)), xor_self) (mod-eq_of_lt (pow_pos (wide m)));
      fixed = fixed_at;
    }

    -- ---- whoever qualifies is the word that was made

    out_small : (i : ℕ) → i < n → at out i < 2 ^ wide m
    out_small i l = elim (dec_lt 0 (at C i)) [
      | no h ↦ rw (fix.kept i l h) (small_at i)
      | yes h ↦ let f : Fixed m n s.b C S received out i = fix.fixed i l h in rw f.changed (xor_lt (wide m) (at received i) f.error (small_at i) f.right.small)
    ]

    pub solved : (c : List ℕ) → InReach s marks received c → out ≡ c
    solved c g = ext_get_or 0 out c (fix.size ∙ sym g.code.size) λ i u.
        let l : i < n = omega (arith, fix.size) in
        same_below (wide m) _ _ (out_small i l) (rw (own_field s ok) (below_at _ c g.code.small i (pow_pos m)))
        (rw (fix.size, g.code.size, back i l) at
        (decoded (K m) ℒ (flagged marks n) s.r (coef (K m) received) t (λ j. at S j) (λ j. at P j) (λ j. at v j) (coef (K m) out) (spots_apart s ok) kern.degree run (coef (K m) c)
        (record { code = codeword_sums s ok c g.code; near = omega (arith, g.bound, marks_few s ok marks received ch.size, errors_few s ok marks received ch.size c g.code.size) })
        (n - suc i) (omega arith)))

    -- ---- the power sums that are left

    left : Rep (K m) ℒ s.r (λ j. at rest j) (coef (K m) out)
    left = fix.rest s.r ok.high sums

    values : Rep (K m) ℒ s.r (λ j. horner (K m) (pow (K m) 2 (s.b + j)) 0 out) (coef (K m) out)
    values = syndromes (K m) 2 n s.b s.r out fix.size

    out_below : T (below (2 ^ m) out)
    out_below = below_all (2 ^ m) out λ i l. rw (own_field s ok) at (out_small i (omega (arith, fix.size)))

    -- they vanish where the word made is a codeword, and only there
    pub left_zero : Codeword s out → (j : ℕ) → j < s.r → at rest j % 2 ^ wide m ≡ 0
    left_zero c j l =
        Z-other (K m) 0 (at rest j) (Rep-both (K m) ℒ s.r (λ i. 0) (λ i. at rest i) (coef (K m) out) (codeword_sums s ok out c) left j l) (mod-eq_of_lt (pow_pos (wide m)))

    pub made_codeword : ((j : ℕ) → j < s.r → at rest j % 2 ^ wide m ≡ 0) → Codeword s out
    made_codeword z = codeword_from s ok out fix.size out_below λ j l.
        Z-other (K m) (at rest j) (horner (K m) (pow (K m) 2 (s.b + j)) 0 out)
        (Rep-both (K m) ℒ s.r (λ i. at rest i) (λ i. horner (K m) (pow (K m) 2 (s.b + i)) 0 out) (coef (K m) out) left values j l) (z j l)
