-- Eight, and sixteen, products by one factor: for each bit of a byte the factor's product by that power of 2 is added.
-- Assumes nothing.
use Rattle.std.specs.Prelude.{◌≡◌, List, length, set}
use Rattle.std.proofs.Math.Path.{sym, ap}
use Rattle.std.proofs.Math.Decide.{ℕ_discrete}
use Rattle.std.proofs.Common.{length-set, get_or-set_same, get_or-set_other, ap₂, ◌∙◌, div-one, add_comm, one-mul, zero-mul, arith, shr-shr}
use Prim.Native.Nat.{ℕ, suc, ◌+◌, ◌-◌, ◌*◌, ◌/◌, ◌%◌, ◌^◌, ◌<◌}
use Rattle.std.specs.Int.Bits.{bit_xor, bit_and}
use Rattle.std.proofs.lemmas.Nat.{and_mask}
use Rattle.std.proofs.Math.Pow.{field, mod-mod-pow}
use Rattle.algebra.specs.Tests.{at}
use Rattle.algebra.specs.Xor.{◌⊕◌, on_bit, assoc, zero_r}
use Rattle.algebra.specs.Ring.{add-mul, mul_assoc, mul_comm}
use Rattle.algebra.specs.Horner.{pow}
use Rattle.field.specs.Field.{only}
use Rattle.field.specs.Products.{Linear, agree}
use Rattle.field.specs.Elements.{wide, prod}
use Rattle.field.proofs.Elements.{K, prod_one}
use Rattle.algebra.specs.Bytes.{byte, byte_xor, byte_none, whole, whole_below, whole_low, whole_high, each_byte}
use Rattle.packed.specs.Doubles.{masked, ones}
use Rattle.field.specs.Doubles.{wide_le}
use Rattle.field.proofs.Doubles.{pow_two}
use Rattle.packed.specs.Combs.{comb, comb_linear, comb_zero, comb_term}

-- a bit of each byte, times c
bit_of : (k j q : ℕ) → suc (k + j) ≡ 8 → q / 2 ^ k % 256 % 2 ≡ q % 256 / 2 ^ k % 2
bit_of k j q e =
    let f : 8 ≡ suc j + k = omega arith in
    let g : suc j ≡ j + 1 = omega arith in
    mod-mod-pow (q / 2 ^ k) 7 1
    ∙ sym (ap (λ (x : ℕ). q % 2 ^ x / 2 ^ k % 2) f ∙ ap (λ (x : ℕ). x % 2) (field q (suc j) k) ∙ ap (λ (x : ℕ). q / 2 ^ k % 2 ^ x % 2) g ∙ mod-mod-pow (q / 2 ^ k) j 1)

-- one term
unfoldable pub term : ℕ → ℕ → ℕ → ℕ
term k c x = bit_and (x / 2 ^ k) 72340172838076673 * c

term_at : (k c x i : ℕ) → k < 8 → c < 256 → i < 8 → byte (term k c x) i ≡ only (byte x i / 2 ^ k % 2) c
unfolding term byte
term_at k c x i l h u =
    masked 1 72340172838076673 c (x / 2 ^ k) ones (omega (arith, one-mul c)) i u
    ∙ ap (λ (z : ℕ). z * c) (and_mask (byte (x / 2 ^ k) i) 1
    ∙ ap (λ (z : ℕ). z % 256 % 2) (shr-shr x k (8 * i) ∙ ap (λ (z : ℕ). x / 2 ^ z) (add_comm k (8 * i)) ∙ sym (shr-shr x (8 * i) k)) ∙ bit_of k (7 - k) (x / 2 ^ (8 * i)) (omega arith))
    ∙ on_bit (λ (d : ℕ). d * c ≡ only d c) (zero-mul c) (one-mul c) (byte x i / 2 ^ k)

-- ---- a factor's products by the powers of a

pub record Factored (m x : ℕ) (l : List ℕ) : Type 0 where
  pub each : (k : ℕ) → k < 8 → at l k ≡ prod m (pow (K m) 2 k) x

-- the first n of them stand
pub record Factoring (m x n : ℕ) (l : List ℕ) : Type 0 where
  pub size : length l ≡ 8
  pub done : (k : ℕ) → k < n → at l k ≡ prod m (pow (K m) 2 k) x

pub factoring_one : (m x : ℕ) (l : List ℕ) → x < 2 ^ wide m → length l ≡ 8 → at l 0 ≡ x → Factoring m x 1 l
unfolding pow
factoring_one m x l u n e = record {
  size = n;
  done = λ k h. let z : k ≡ 0 = omega arith in rw z (e ∙ sym (mul_comm (K m) 1 x ∙ prod_one m x u));
}

pub factoring_more : (m x n : ℕ) (l : List ℕ) (y : ℕ) → 0 < n → n < 8 → y ≡ prod m 2 (at l (n - 1)) → Factoring m x n l → Factoring m x (n + 1) (set l n y)
unfolding pow
factoring_more m x n l y some h e f = record {
  size = length-set l n y ∙ f.size;
  done = λ k u. elim (ℕ_discrete k n) [
    | yes z ↦
        let up : n ≡ suc (n - 1) = omega arith in
        rw (z, get_or-set_same l n y 0 (omega (arith, f.size)))
        (e ∙ ap (prod m 2) (f.done (n - 1) (omega arith)) ∙ sym (mul_assoc (K m) 2 (pow (K m) 2 (n - 1)) x) ∙ ap (λ (v : ℕ). prod m (pow (K m) 2 v) x) (sym up))
    | no z ↦ get_or-set_other l n k y 0 z ∙ f.done k (omega arith)
  ];
}

prod_linear : (m x : ℕ) → Linear (λ y. prod m y x)
unfolding ◌⊕◌
prod_linear m x y z = add-mul (K m) y z x

-- the sum of a byte's bits' products is the product
pub comb_prod : (m x : ℕ) (l : List ℕ) → Factored m x l → (v : ℕ) → v < 2 ^ wide m → comb 8 (at l) v ≡ prod m v x
comb_prod m x l h v u =
    agree (comb 8 (at l)) (λ y. prod m y x) (comb_linear 8 (at l)) (prod_linear m x) (wide m)
    (λ i k. let w : i < 8 = omega (arith, wide_le m) in comb_term 8 (at l) i w ∙ h.each i w ∙ ap (λ (z : ℕ). prod m z x) (pow_two m i k)) v u

-- ---- the eight bytes of a word

-- each byte of x has its bits' sum in r
pub record ByFactor (l : List ℕ) (x r : ℕ) : Type 0 where
  pub each : (i : ℕ) → i < 8 → byte r i ≡ comb 8 (at l) (byte x i)

in_a_row : (a b c d e f g h : ℕ) → ((a ⊕ b) ⊕ (c ⊕ d)) ⊕ ((e ⊕ f) ⊕ (g ⊕ h)) ≡ a ⊕ (b ⊕ (c ⊕ (d ⊕ (e ⊕ (f ⊕ (g ⊕ (h ⊕ 0)))))))
in_a_row a b c d e f g h = simp (assoc, zero_r)

eight_terms : (v : ℕ) (l : List ℕ) → ((only (v % 2) (at l 0) ⊕ only (v / 2 % 2) (at l 1)) ⊕ (only (v / 4 % 2) (at l 2) ⊕ only (v / 8 % 2) (at l 3)))
    ⊕ ((only (v / 16 % 2) (at l 4) ⊕ only (v / 32 % 2) (at l 5)) ⊕ (only (v / 64 % 2) (at l 6) ⊕ only (v / 128 % 2) (at l 7))) ≡ comb 8 (at l) v
unfolding comb
eight_terms v l =
    let e4 : v / 2 / 2 ≡ v / 4 = omega arith in
    let e8 : v / 4 / 2 ≡ v / 8 = omega arith in
    let e16 : v / 8 / 2 ≡ v / 16 = omega arith in
    let e32 : v / 16 / 2 ≡ v / 32 = omega arith in
    let e64 : v / 32 / 2 ≡ v / 64 = omega arith in
    let e128 : v / 64 / 2 ≡ v / 128 = omega arith in
    rw (e4, e8, e16, e32, e64, e128) (in_a_row _ _ _ _ _ _ _ _)

byte_sum : (a b p q i : ℕ) → byte a i ≡ p → byte b i ≡ q → byte (bit_xor a b) i ≡ p ⊕ q
unfolding ◌⊕◌
byte_sum a b p q i e f = byte_xor a b i ∙ ap₂ bit_xor e f

module _ (x : ℕ) (l : List ℕ) (small : (k : ℕ) → at l k < 256) where
  pub word_by_lem : ByFactor l x
      (bit_xor (bit_xor (bit_xor (term 0 (at l 0) x) (term 1 (at l 1) x)) (bit_xor (term 2 (at l 2) x) (term 3 (at l 3) x)))
      (bit_xor (bit_xor (term 4 (at l 4) x) (term 5 (at l 5) x)) (bit_xor (term 6 (at l 6) x) (term 7 (at l 7) x))))
  word_by_lem = record {
    each = λ i u.
        let bit : (k : ℕ) → k < 8 → byte (term k (at l k) x) i ≡ only (byte x i / 2 ^ k % 2) (at l k) = λ k h. term_at k (at l k) x i h (small k) u in
        let first : byte (term 0 (at l 0) x) i ≡ only (byte x i % 2) (at l 0) = bit 0 (omega arith) ∙ ap (λ (z : ℕ). only (z % 2) (at l 0)) (div-one (byte x i)) in
        byte_sum _ _ _ _ i
        (byte_sum _ _ _ _ i (byte_sum _ _ _ _ i first (bit 1 (omega arith))) (byte_sum _ _ _ _ i (bit 2 (omega arith)) (bit 3 (omega arith))))
        (byte_sum _ _ _ _ i (byte_sum _ _ _ _ i (bit 4 (omega arith)) (bit 5 (omega arith))) (byte_sum _ _ _ _ i (bit 6 (omega arith)) (bit 7 (omega arith))))
        ∙ eight_terms (byte x i) l;
  }

-- ---- of two words

pub record Scaled (l : List ℕ) (a b c d : ℕ) : Type 0 where
  pub each : (j : ℕ) → byte (whole c d) j ≡ comb 8 (at l) (byte (whole a b) j)

pub scaled : (l : List ℕ) (a b c d : ℕ) → a < 2 ^ 64 → b < 2 ^ 64 → c < 2 ^ 64 → d < 2 ^ 64 → ByFactor l a c → ByFactor l b d → Scaled l a b c d
scaled l a b c d la lb lc ld h k = record {
  each = each_byte (λ j z. z ≡ comb 8 (at l) (byte (whole a b) j)) c d lc ld
      (λ i u. h.each i u ∙ ap (comb 8 (at l)) (sym (whole_low a b i la u)))
      (λ i u. k.each i u ∙ ap (comb 8 (at l)) (sym (whole_high a b i la)))
      (λ i u. sym (ap (comb 8 (at l)) (byte_none (whole a b) 16 i (whole_below a b la lb) u) ∙ comb_zero 8 (at l)));
}
