-- What a map says: it counts the errors, it is all 0 exactly where nothing was changed, and with the received word it tells where the
-- corrected one differs.
-- Assumes nothing.
use Rattle.std.specs.Prelude.{◌≡◌, Bool, ◌&&◌, ◌≢◌, List, ℕ, zero, suc, ◌<◌, T, length, replicate, take}
use Rattle.std.proofs.Math.Path.{refl, sym}
use Rattle.std.proofs.Common.{ap, ◌∙◌, arith, eq-eqb, ne_eqb, ext_get_or, get_or-take}
use Rattle.std.proofs.Math.Bool.{true, false, not}
use Rattle.std.proofs.Math.Decide.{ℕ_discrete}
use Rattle.std.proofs.Math.Arith.{bin_ind}
use Rattle.std.specs.Int.Count.{ones, ones_step}
use Rattle.std.proofs.Math.Dec.{eqb}
use Rattle.std.proofs.lemmas.List.{length-replicate}
use Rattle.std.proofs.Math.ListN.{get_or-replicate}
use Rattle.algebra.specs.Xor.{◌⊕◌, xor_same}
use Rattle.algebra.specs.Tests.{at, total, one_if, below, below_all, total_same}
use Rattle.algebra.specs.Lists.{length_tabulate, get_or_tabulate, tabulate_same, tabulated}
use Rattle.word.specs.Figures.{error_of, errors, bits_at, bits}
use Rattle.word.specs.Map.{change_of, change_at, changes, unchanged}

-- ---- one place

module _ (x y : ℕ) where
  pub change_of_same : x ≡ y → 0 ≡ change_of x y
  unfolding change_of
  change_of_same e = rw (eq-eqb x y e)

  pub change_of_other : x ≢ y → 1 ≡ change_of x y
  unfolding change_of
  change_of_other ne = rw (ne_eqb x y ne)

  pub kept_there : change_of x y ≡ 0 → x ≡ y
  kept_there z = elim (ℕ_discrete x y) [ yes e ↦ e | no ne ↦ absurd (omega (arith, change_of_other ne)) ]

  pub changed_there : change_of x y ≡ 1 → x ≢ y
  changed_there o e = omega (arith, change_of_same e)

  change_of_small : change_of x y < 2
  change_of_small = elim (ℕ_discrete x y) [ yes e ↦ omega (arith, change_of_same e) | no ne ↦ omega (arith, change_of_other ne) ]

-- a sum that is nothing has no term, and a number without ones is none
none_of : (n : ℕ) (f : ℕ → ℕ) → total n f ≡ 0 → (i : ℕ) → i < n → f i ≡ 0
unfolding total
none_of zero f e i l = absurd (omega arith)
none_of (suc n) f e i l = elim (ℕ_discrete i n) [ yes g ↦ rw g (omega arith) | no g ↦ none_of n f (omega arith) i (omega arith) ]

no_ones : (n : ℕ) → ones n ≡ 0 → n ≡ 0
no_ones = bin_ind (λ (n : ℕ). ones n ≡ 0 → n ≡ 0) (λ _. refl) λ n ih e. omega (arith, ones_step n, ih (omega (arith, ones_step n)))

-- ---- the map

module _ (received word : List ℕ) where
  pub length_changes : length (changes received word) ≡ length received
  unfolding changes
  length_changes = length_tabulate (length received) (change_at received word)

  pub changes_at_lem : (i : ℕ) → i < length received → at (changes received word) i ≡ change_at received word i
  unfolding changes
  changes_at_lem i l = get_or_tabulate (length received) (change_at received word) i 0 l

  -- every mark of it is 0 or 1
  pub changes_small : T (below 2 (changes received word))
  changes_small = below_all 2 (changes received word) λ i l. rw (changes_at_lem i (omega (arith, length_changes))) (change_of_small (at received i) (at word i))

  -- its ones at unmarked places are e
  pub unmarked_changes : (marks : List ℕ) → errors marks received word ≡ total (length received) λ i. one_if (eqb (at marks i) 0 && eqb (at (changes received word) i) 1)
  unfolding errors error_of change_of
  unmarked_changes marks = total_same (length received) _ _ λ i l. rw (changes_at_lem i l) (same (eqb (at marks i) 0) (eqb (at received i) (at word i)))
    where
      same : (a b : Bool) → one_if (a && not b) ≡ one_if (a && eqb (one_if (not b)) 1)
      same true true = refl
      same true false = refl
      same false true = refl
      same false false = refl

  -- where there is no bit that differs, no place was changed
  pub changes_no_bits : bits received word ≡ 0 → changes received word ≡ unchanged received
  unfolding bits changes ◌⊕◌
  changes_no_bits z = sym (tabulated (unchanged received) (length received) (change_at received word) 0 (length-replicate (length received) 0) λ i l.
      get_or-replicate (length received) i 0 0 l ∙ change_of_same _ _ (xor_same _ _ (no_ones _ (none_of (length received) (bits_at received word) z i l))))

-- a word that is its own correction
pub changes_self : (w : List ℕ) → unchanged w ≡ changes w w
unfolding changes
changes_self w = tabulated (unchanged w) (length w) (change_at w w) 0 (length-replicate (length w) 0) λ i l. get_or-replicate (length w) i 0 0 l ∙ change_of_same _ _ refl

-- and no other word has a map that is all 0
pub changes_none : (received word : List ℕ) → length word ≡ length received → changes received word ≡ unchanged received → received ≡ word
changes_none received word e z = ext_get_or 0 received word (sym e) λ i l.
    kept_there _ _ (sym (changes_at_lem received word i l) ∙ ap (λ (m : List ℕ). at m i) z ∙ get_or-replicate (length received) i 0 0 l)

-- The received word and the map tell where; with the symbols at the map's places they tell the corrected word.
pub changes_tell : (received u w : List ℕ) → length u ≡ length received → length w ≡ length received → changes received u ≡ changes received w
    → ((i : ℕ) → at (changes received w) i ≡ 1 → at u i ≡ at w i) → u ≡ w
changes_tell received u w eu ew same there = ext_get_or 0 u w (eu ∙ sym ew) λ i l.
    let r : i < length received = omega arith in
    let a = changes_at_lem received u i r in
    let b = changes_at_lem received w i r in
    let both : change_at received u i ≡ change_at received w i = sym a ∙ ap (λ (m : List ℕ). at m i) same ∙ b in
    elim (ℕ_discrete (at received i) (at w i)) [
      | yes e ↦ sym (kept_there _ _ (both ∙ sym (change_of_same _ _ e))) ∙ e
      | no ne ↦ there i (b ∙ sym (change_of_other _ _ ne))
    ]

-- a map of n marks that has been filled with 0
pub cleared : (n : ℕ) (map received left : List ℕ) → left ≡ replicate (length map) 0 → length map ≡ n → length received ≡ n → left ≡ unchanged received
cleared n map received left e m r = e ∙ ap (λ (k : ℕ). replicate k 0) (m ∙ sym r)

-- only the front of a longer buffer is looked at
pub changes_front : (received work : List ℕ) → changes received (take (length received) work) ≡ changes received work
unfolding changes
changes_front received work = tabulate_same (length received) _ _ λ i l. ap (change_of (at received i)) (get_or-take (length received) work i 0 l)
