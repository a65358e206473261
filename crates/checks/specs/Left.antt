-- What a received word leaves of its message's check symbols: r symbols with the same values at the code's roots as the whole word.
-- Assumes nothing.
use Rattle.std.specs.Prelude.{◌≡◌, List, ◌++◌, ℕ, ◌%◌, ◌^◌, ◌<◌, ◌≤◌, length, take, replicate}
use Rattle.std.proofs.Common.{sym, ap, ap₂, ◌∙◌, mod-eq_of_lt, arith, pow_pos, length-take-le, get_or-take}
use Rattle.std.proofs.Math.Decide.{dec_lt}
use Rattle.std.specs.Int.Bits.{bit_xor, xor_self, xor_zero_r}
use Rattle.std.proofs.Math.ListN.{get_or-eq_default}
use Rattle.algebra.specs.Tests.{at}
use Rattle.algebra.specs.Xor.{xor_assoc}
use Rattle.algebra.specs.Lists.{Filled}
use Rattle.algebra.specs.Ring.{Z-trans, Z-other}
use Rattle.algebra.specs.Peel.{Rep}
use Rattle.algebra.specs.Horner.{horner, horner_append, horner_add, horner_none, Added, coef, syndromes}
use Rattle.field.specs.Elements.{wide}
use Rattle.field.proofs.Elements.{K}
use Rattle.checks.specs.Roots.{root, spots}
use Rattle.checks.specs.Checks.{Checks}
use Rattle.checks.specs.Starts.{zeros}
use Rattle.checks.specs.Syndromes.{Syndromes}

-- `rest` counts as the word does at each of the r roots
pub record LeftOver (m b r : ℕ) (word rest : List ℕ) : Type 0 where
  pub same : (j : ℕ) → j < r → bit_xor (horner (K m) (root m b j) 0 rest) (horner (K m) (root m b j) 0 word) % 2 ^ wide m ≡ 0

-- the first i symbols of a list, and zeros behind them
pub record Padded (symbols : List ℕ) (i : ℕ) (r : List ℕ) : Type 0 where
  pub size : length r ≡ 16
  pub first : (j : ℕ) → j < i → at r j ≡ at symbols j
  pub behind : (j : ℕ) → i ≤ j → at r j ≡ 0

-- the sum of a check symbol and the symbol received in its place
abbrev pub left_at : (checks received : List ℕ) → ℕ → ℕ
left_at checks received i = bit_xor (at checks i) (at received i)

pub none_there : (n j : ℕ) → at (replicate n 0) j ≡ 0
none_there n j = (zeros n).each j

-- ---- the check symbols' sums with those received are left over

module _ (m b r : ℕ) (message tail checks received rest : List ℕ) (few : r ≤ 16) (n : length tail ≡ r) (sixteen : length checks ≡ 16)
    (c : Checks m b r message checks) (p : Padded tail r received) (h : Filled 16 (left_at checks received) 16 rest) where
  sized : (xs : List ℕ) → length xs ≡ 16 → length (take r xs) ≡ r
  sized xs e = length-take-le r xs (omega arith)

  added : Added (K m) (take r checks) tail (take r rest)
  added = record {
    first = sized checks sixteen ∙ sym (sized rest h.size);
    second = n ∙ sym (sized rest h.size);
    each = λ i. elim (dec_lt i r) [
      | yes l ↦ get_or-take r rest i 0 l ∙ h.first i (omega arith) ∙ ap₂ bit_xor (sym (get_or-take r checks i 0 l)) (p.first i l)
      | no l ↦ get_or-eq_default (take r rest) 0 {n = i} (omega (arith, sized rest h.size))
          ∙ sym (ap₂ bit_xor (get_or-eq_default (take r checks) 0 {n = i} (omega (arith, sized checks sixteen))) (get_or-eq_default tail 0 {n = i} (omega arith)))
    ];
  }

  twice : (x y : ℕ) → bit_xor (bit_xor x y) y ≡ x
  twice x y = xor_assoc x y y ∙ rw (xor_self y, xor_zero_r x)

  pub left_over : LeftOver m b r (message ++ tail) (take r rest)
  left_over = record {
    same = λ j l.
        let x = root m b j in
        let v = horner (K m) x 0 message in
        let e : horner (K m) x 0 (take r rest) ≡ bit_xor (horner (K m) x v (take r checks)) (horner (K m) x v tail) =
        ap (λ (z : ℕ). horner (K m) x z (take r rest)) (sym (xor_self v)) ∙ horner_add (K m) x v v (take r checks) tail (take r rest) added in
        rw (e, horner_append (K m) x 0 message tail, twice) (rw (horner_append (K m) x 0 message (take r checks)) at (c.zeros j l));
  }

-- ---- what it tells of the word

module _ (m b r : ℕ) (word rest : List ℕ) (h : LeftOver m b r word rest) where
  -- where nothing is left, the word has the code's roots
  pub left_none : ((i : ℕ) → at rest i ≡ 0) → (j : ℕ) → j < r → horner (K m) (root m b j) 0 word % 2 ^ wide m ≡ 0
  left_none z j l = Z-other (K m) _ _ (h.same j l) (horner_none (K m) (root m b j) 0 rest (mod-eq_of_lt (pow_pos (wide m))) z)

  -- its syndromes are the word's power sums
  pub left_sums : (n : ℕ) (S : List ℕ) → r ≤ 16 → length word ≡ n → Syndromes m b rest S → Rep (K m) (spots m n b) r (λ j. at S j) (coef (K m) word)
  unfolding Syndromes
  left_sums n S few e s j l =
      Z-trans (K m) (at S j) (horner (K m) (root m b j) 0 word) _ (rw (s j (omega arith)) (h.same j l)) (syndromes (K m) 2 n b r word e j l)
