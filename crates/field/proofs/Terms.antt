-- The product a term at a time: what the loop of `by_terms` keeps, and its turns, for either m.
-- Assumes nothing.
use mathlib.Core.Path.{◌≡◌, sym, ap, ap₂, ◌∙◌, subst}
use Prim.Native.Nat.{ℕ, suc, ◌-◌, ◌*◌, ◌/◌, ◌%◌, ◌^◌, ◌<◌}
use native.Mathlib.Nat.{zero-mul, one-mul, div-lt_iff_lt-mul, pow-suc, mod-lt, mod-eq_of_lt}
use native.Mathlib.Omega.{arith}
use lib.Arith.{lt-one}
use lib.Bits.{bit_xor}
use lib.Pow.{pow_pos}
use Rattle.algebra.specs.Xor.{◌⊕◌, on_bit, zero_l, zero_r, assoc}
use Rattle.field.specs.Field.{only, modulus, mul}
use Rattle.field.specs.Products.{product_step, product_below, product_zero_l}
use Rattle.field.specs.Elements.{wide, two_below, prod}
use Rattle.field.proofs.Elements.{known}

bit_mul : (a b : ℕ) → a % 2 * b ≡ only (a % 2) b
bit_mul a b = on_bit (λ (d : ℕ). d * b ≡ only d b) (zero-mul b) (one-mul b) a

half : (a n : ℕ) → 0 < n → a < 2 ^ n → a / 2 < 2 ^ (n - 1)
half a n h l =
    let e : n ≡ suc (n - 1) = omega arith in
    (div-lt_iff_lt-mul (pow_pos 1)).1 (rw (← pow-suc 2 (n - 1), ← e) l)

-- what is summed, and the product that is left to add, are the whole product
pub record Terms (m x y left a b sum : ℕ) : Type 0 where
  pub few : a < 2 ^ left
  pub first : a < 2 ^ wide m
  pub second : b < 2 ^ wide m
  pub byte : b < 256
  pub whole : sum ⊕ mul (wide m) a b ≡ prod m x y

pub terms_start : (m x y left a b : ℕ) → a < 2 ^ left → b < 256 → a ≡ x % 2 ^ wide m → b ≡ y % 2 ^ wide m → Terms m x y left a b 0
terms_start m x y left a b ha hb ea eb = record {
  few = ha;
  first = rw ea (mod-lt x (pow_pos (wide m)));
  second = rw eb (mod-lt y (pow_pos (wide m)));
  byte = hb;
  whole = rw (ea, eb) (zero_l (prod m x y));
}

pub terms_turn : (m x y left a b sum d : ℕ) → Terms m x y left a b sum → 0 < left → d < 256 → d ≡ prod m 2 b
    → Terms m x y (left - 1) (a / 2) d (bit_xor sum (a % 2 * b))
unfolding ◌⊕◌
terms_turn m x y left a b sum d t h byte e =
    let double : d ≡ mul (wide m) 2 b = e ∙ ap₂ (mul (wide m)) (mod-eq_of_lt (two_below (wide m) (known m))) (mod-eq_of_lt t.second) in
    record {
      few = half a left h t.few;
      first = omega (arith, t.first);
      second = rw double (product_below (wide m) (modulus (wide m)) (known m).rules.degree 2 t.second);
      byte = byte;
      whole =
          ap₂ (λ (u v : ℕ). (sum ⊕ u) ⊕ mul (wide m) (a / 2) v) (bit_mul a b) double
          ∙ assoc sum (only (a % 2) b) (mul (wide m) (a / 2) (mul (wide m) 2 b))
          ∙ ap (λ (z : ℕ). sum ⊕ z) (sym (product_step (wide m) (modulus (wide m)) (known m).rules.degree a b (known m).rules.room t.first t.second))
          ∙ t.whole;
    }

pub terms_end : (m x y left a b sum : ℕ) → Terms m x y left a b sum → left ≡ 0 → sum ≡ prod m x y
terms_end m x y left a b sum t done =
    let none : a ≡ 0 = lt-one (subst (λ (n : ℕ). a < 2 ^ n) done t.few) in
    sym (ap (λ (z : ℕ). sum ⊕ z) (ap (λ (z : ℕ). mul (wide m) z b) none ∙ product_zero_l (wide m) (modulus (wide m)) b) ∙ zero_r sum) ∙ t.whole
