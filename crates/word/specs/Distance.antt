-- 002, equation 8.3: two codewords differ in at least r + 1 places; so at most one codeword has 2e + f ≤ r. The tests of the paper
-- are turned into the theory's power sums here, once for both fields.
-- Assumes nothing.
use Rattle.std.specs.Prelude.{◌≡◌, ◌≢◌, ℕ, zero, suc, ◌+◌, ◌-◌, ◌^◌, ◌≤◌, ◌<◌, length, T, ltb}
use Rattle.std.proofs.Math.Path.{refl, ap, subst}
use Rattle.std.proofs.Common.{sym, ap₂, ◌∙◌, mod-eq_of_lt, ext_get_or, pow_pos, ltb→lt}
use mathlib.Core.List.{List, [], ◌∷◌}
use Rattle.std.proofs.Math.Decide.{dec_le}
use native.Mathlib.Omega.{arith}
use Rattle.std.specs.Int.Bits.{bit_xor, xor_self}
use Rattle.std.proofs.lemmas.Nat.{xor_lt}
use Rattle.std.specs.Int.Count.{ones}
use Rattle.algebra.specs.Sets.{one, count}
use Rattle.algebra.specs.Tests.{at, total, below, and_left, and_right, total_first, below_at}
use Rattle.algebra.specs.Xor.{◌⊕◌, same_below}
use Rattle.algebra.specs.Peel.{Rep, Apart}
use Rattle.algebra.specs.Vandermonde.{unlike, near_once}
use Rattle.algebra.specs.Horner.{pow, horner, coef, syndromes, places_apart}
use Rattle.field.specs.Field.{mul, modulus, a^}
use Rattle.field.specs.Products.{product_below}
use Rattle.field.specs.Powers.{power_below}
use Rattle.field.specs.Elements.{wide}
use Rattle.field.proofs.Elements.{known, K, pow_power, two_nz, order}
use Rattle.word.specs.Setting.{Allowed, named}
use Rattle.checks.specs.Roots.{spots}
use Rattle.decoder.specs.Places.{flagged}
use Rattle.word.specs.Word.{value_from, value, error_at, error_of_same, error_of_wrong, errors, marked, bits_at, bits}
use Rattle.word.specs.Codeword.{Codeword, InReach}
use Rattle.word.specs.declared.Setting.{Setting}

-- ---- the paper's value is the theory's

module _ (m : ℕ) where
  value_horner : (w : List ℕ) (v x : ℕ) → v < 2 ^ wide m → x < 2 ^ wide m → T (below (2 ^ wide m) w) → horner (K m) x v w ≡ value_from (wide m) v x w
  unfolding horner value_from ◌⊕◌ below
  value_horner [] v x a b h = refl
  value_horner (c ∷ w) v x a b h =
      ap (λ (z : ℕ). horner (K m) x (bit_xor z c) w) (ap₂ (mul (wide m)) (mod-eq_of_lt a) (mod-eq_of_lt b))
      ∙ value_horner w (bit_xor (mul (wide m) v x) c) x
      (xor_lt (wide m) (mul (wide m) v x) c (product_below (wide m) (modulus (wide m)) (known m).rules.degree v b) (ltb→lt c (2 ^ wide m) (and_left (ltb c (2 ^ wide m)) (below (2 ^ wide m) w) h)))
      b (and_right (ltb c (2 ^ wide m)) (below (2 ^ wide m) w) h)

  value_below : (w : List ℕ) (v x : ℕ) → v < 2 ^ wide m → x < 2 ^ wide m → T (below (2 ^ wide m) w) → value_from (wide m) v x w < 2 ^ wide m
  unfolding value_from below ◌⊕◌
  value_below [] v x a b h = a
  value_below (c ∷ w) v x a b h =
      value_below w (bit_xor (mul (wide m) v x) c) x
      (xor_lt (wide m) (mul (wide m) v x) c (product_below (wide m) (modulus (wide m)) (known m).rules.degree v b) (ltb→lt c (2 ^ wide m) (and_left (ltb c (2 ^ wide m)) (below (2 ^ wide m) w) h)))
      b (and_right (ltb c (2 ^ wide m)) (below (2 ^ wide m) w) h)

  pub value_at_root : (w : List ℕ) (k : ℕ) → T (below (2 ^ wide m) w) → horner (K m) (pow (K m) 2 k) 0 w ≡ value (wide m) w (a^ (wide m) k)
  value_at_root w k h = ap (λ (x : ℕ). horner (K m) x 0 w) (pow_power m k) ∙ value_horner w 0 (a^ (wide m) k) (pow_pos (wide m)) (power_below (known m).rules k) h

  pub root_value_below : (w : List ℕ) (k : ℕ) → T (below (2 ^ wide m) w) → horner (K m) (pow (K m) 2 k) 0 w < 2 ^ wide m
  root_value_below w k h = rw (value_at_root w k h) (value_below w 0 (a^ (wide m) k) (pow_pos (wide m)) (power_below (known m).rules k) h)

-- ---- counts: the theory counts places from the other end

one_le : {P : Type 0} (w : Dec P) (x : ℕ) → (P → 1 ≤ x) → one w ≤ x
unfolding one
one_le (yes p) x h = h p
one_le (no p) x h = omega arith

pub count_total : {P : ℕ → Type 0} (q : (k : ℕ) → Dec (P k)) (n : ℕ) (f : ℕ → ℕ) → ((i : ℕ) → i < n → P (n - suc i) → 1 ≤ f i) → count q n ≤ total n f
unfolding count total
count_total q zero f h = omega arith
count_total {P} q (suc n) f h =
    let e : suc n - 1 ≡ n = omega arith in
    omega (
      arith,
      total_first n f,
      one_le (q n) (f 0) (rw e at (h 0 (omega arith))),
      count_total q n (λ i. f (suc i)) λ i l p. h (suc i) (omega arith) (let g : suc n - suc (suc i) ≡ n - suc i = omega arith in rw g p),
    )

pub total_zero : (n : ℕ) (f : ℕ → ℕ) → ((i : ℕ) → i < n → f i ≡ 0) → total n f ≡ 0
unfolding total
total_zero zero f h = refl
total_zero (suc n) f h = omega (arith, total_zero n f (λ i l. h i (omega arith)), h n (omega arith))

pub errors_self : (marks w : List ℕ) → errors marks w w ≡ 0
unfolding errors
errors_self marks w = total_zero (length w) (error_at marks w w) λ i l. error_of_same (at marks i) (at w i) (at w i) refl

pub bits_self : (w : List ℕ) → bits w w ≡ 0
unfolding bits ◌⊕◌ ones
bits_self w = total_zero (length w) (bits_at w w) λ i l. rw (xor_self (at w i))

module _ (s : Setting) (ok : Allowed s) where
  pub own_field : wide s.m ≡ s.m
  own_field = named s.m ok.field

  pub spots_apart : Apart (K s.m) (spots s.m s.n s.b)
  spots_apart = places_apart (K s.m) 2 s.n (two_nz s.m) (order s.m s.n (rw own_field ok.short)) s.b

  -- a codeword's power sums vanish
  pub codeword_sums : (w : List ℕ) → Codeword s w → Rep (K s.m) (spots s.m s.n s.b) s.r (λ j. 0) (coef (K s.m) w)
  codeword_sums w c j l =
      let zero_there : horner (K s.m) (pow (K s.m) 2 (s.b + j)) 0 w ≡ 0 = value_at_root s.m w (s.b + j) (rw own_field c.small) ∙ rw own_field (c.zeros j l) in
      rw zero_there at (syndromes (K s.m) 2 s.n s.b s.r w c.size j l)

  module _ (marks received : List ℕ) (size : length received ≡ s.n) where
    back : (i : ℕ) → i < s.n → s.n - suc (s.n - suc i) ≡ i
    back i l = omega arith

    pub marks_few : count (flagged marks s.n) s.n ≤ marked marks received
    unfolding marked
    marks_few = rw size (count_total (flagged marks s.n) s.n (λ i. at marks i) λ i l p. rw (back i l) at p)

    pub errors_few : (w : List ℕ) → length w ≡ s.n
        → count (unlike (K s.m) (spots s.m s.n s.b) (flagged marks s.n) (coef (K s.m) received) (coef (K s.m) w)) s.n ≤ errors marks received w
    unfolding errors
    errors_few w e =
        subst (λ (k : ℕ). count (unlike (K s.m) (spots s.m s.n s.b) (flagged marks s.n) (coef (K s.m) received) (coef (K s.m) w)) s.n ≤ total k (error_at marks received w)) (sym size)
        (count_total (unlike (K s.m) (spots s.m s.n s.b) (flagged marks s.n) (coef (K s.m) received) (coef (K s.m) w)) s.n (error_at marks received w) λ i l p.
        let a : ¬ (0 < at marks i) = rw (back i l) at p.0 in
        omega (arith, error_of_wrong (at marks i) (at received i) (at w i) (omega arith) λ q. (rw (size, e, back i l) at p.1) (rw (q, xor_self) (mod-eq_of_lt (pow_pos (wide s.m))))))

    -- two codewords whose wrong places and the marks are together at most r are one
    pub close_once : (c d : List ℕ) → Codeword s c → Codeword s d → marked marks received + (errors marks received c + errors marks received d) ≤ s.r → c ≡ d
    close_once c d p q h = ext_get_or 0 c d (p.size ∙ sym q.size) λ i l.
        let l : i < s.n = omega (arith, p.size) in
        same_below (wide s.m) _ _ (rw own_field (below_at _ c p.small i (pow_pos s.m))) (rw own_field (below_at _ d q.small i (pow_pos s.m)))
        (rw (p.size, q.size, back i l) at
        (near_once (K s.m) (spots s.m s.n s.b) spots_apart (flagged marks s.n) (coef (K s.m) received) (coef (K s.m) c) (coef (K s.m) d) s.r (codeword_sums c p) (codeword_sums d q)
        (omega (arith, h, marks_few, errors_few c p.size, errors_few d q.size)) (s.n - suc i) (omega arith)))

    -- at most one qualifies
    pub near_one : (c d : List ℕ) → InReach s marks received c → InReach s marks received d → c ≡ d
    near_one c d p q = close_once c d p.code q.code (omega (arith, p.bound, q.bound))

  -- two codewords differ in at least r + 1 places: with no marks, those are the errors of one as received and the other as sent
  pub two_codewords_differ : (c d : List ℕ) → Codeword s c → Codeword s d → c ≢ d → s.r < errors [] c d
  unfolding marked
  two_codewords_differ c d p q ne = elim (dec_le (errors [] c d) s.r) [
    | yes h ↦ absurd (ne (close_once [] c p.size c d p q (omega (arith, errors_self [] c, total_zero (length c) (λ i. at [] i) (λ i l. refl)))))
    | no h ↦ omega arith
  ]
