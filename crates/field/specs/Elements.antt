-- The field that m names, as the one structure that the theory of the word code stands on: algebra's `Ring`, on all numbers.
-- A number other than 3 stands for 8 here, so that nothing below the settings' own check has to ask what m is.
-- Assumes nothing.
use Rattle.std.specs.Prelude.{◌≡◌, ◌≢◌, List, eqb, if◌then◌else◌}
use Rattle.std.proofs.Math.Path.{ap₂}
use Rattle.std.proofs.Common.{sym, ap, ◌∙◌, arith, eq-eqb, ne_eqb}
use Prim.Native.Nat.{ℕ, ◌-◌, ◌%◌, ◌^◌, ◌<◌}
use Rattle.std.proofs.Math.Nat.{mod-eq_of_lt}
use Rattle.std.specs.Int.Bits.{bit_xor}
use Rattle.std.proofs.Math.Pow.{pow-lt}
use Rattle.algebra.specs.Xor.{◌⊕◌}
use Rattle.algebra.specs.Numbers.{Field}
use Rattle.field.specs.Field.{modulus, mul}
use Rattle.field.specs.Products.{product_one, product_below, product_assoc, product_comm, product_right}
use Rattle.field.specs.Raised.{raised, raised_below}
use Rattle.field.specs.Powers.{Rules, a_below, raised_inverse}

-- the width of the field that m names: 3, or else 8
unfoldable pub wide : ℕ → ℕ
wide m = if eqb m 3 then 3 else 8

pub wide_3 : (m : ℕ) → m ≡ 3 → wide m ≡ 3
unfolding wide
wide_3 m e = rw (eq-eqb m 3 e)

pub wide_8 : (m : ℕ) → m ≢ 3 → wide m ≡ 8
unfolding wide
wide_8 m ne = rw (ne_eqb m 3 ne)

-- a field's table of powers, with its rule
pub record Known (m : ℕ) : Type 0 where
  pub powers : List ℕ
  pub rules : Rules m (modulus m) powers

module _ (m : ℕ) (t : Known m) where
  open t use {rules}

  pub one_below : 1 < 2 ^ m
  one_below = pow-lt {i = 0} {j = m} (omega (arith, rules.room))

  pub two_below : 2 < 2 ^ m
  two_below = a_below rules

  -- the power of x that x becomes 1 with
  pub inverse : ℕ → ℕ
  inverse x = raised m (modulus m) x (2 ^ m - 2)

  pub inverse_below : (x : ℕ) → inverse x < 2 ^ m
  unfolding inverse
  inverse_below x = raised_below m (modulus m) rules.degree rules.room x (2 ^ m - 2)

  pub inverse_one : (x : ℕ) → 0 < x → x < 2 ^ m → mul m x (inverse x) ≡ 1
  unfolding inverse
  inverse_one x h l = raised_inverse rules x h l

  pub undo : (x y : ℕ) → x < 2 ^ m → y < 2 ^ m → x ≢ 0 → mul m (inverse x) (mul m x y) ≡ y
  undo x y a b ne =
      sym (product_assoc m (modulus m) rules.degree (inverse x) x y (inverse_below x) a b)
      ∙ ap (λ (z : ℕ). mul m z y) (product_comm m (modulus m) (inverse x) x (inverse_below x) a ∙ inverse_one x (omega arith) a)
      ∙ product_one m (modulus m) y (omega (arith, rules.room)) b

  pub mul_xor : (x y z : ℕ) → mul m x (bit_xor y z) ≡ bit_xor (mul m x y) (mul m x z)
  unfolding ◌⊕◌
  mul_xor x y z = product_right m (modulus m) x y z

  -- the numbers below 2^m are a field
  abbrev pub numbers : Field m
  numbers = record {
    mul = mul m;
    inv = inverse;
    mul_lt = λ x y a b. product_below m (modulus m) rules.degree x b;
    inv_lt = λ x a. inverse_below x;
    mul_assoc = product_assoc m (modulus m) rules.degree;
    mul_comm = product_comm m (modulus m);
    mul_xor = λ x y z a b c. mul_xor x y z;
    inv_mul = undo;
    one_below = one_below;
    mul-one = λ x a. product_comm m (modulus m) x 1 a one_below ∙ product_one m (modulus m) x (omega (arith, rules.room)) a;
  }

-- its product on all numbers: of the two remainders by 2^m
abbrev pub prod : ℕ → ℕ → ℕ → ℕ
prod m x y = mul (wide m) (x % 2 ^ wide m) (y % 2 ^ wide m)

module _ (m : ℕ) where
  pub prod_small : (x y : ℕ) → x < 2 ^ wide m → y < 2 ^ wide m → prod m x y ≡ mul (wide m) x y
  prod_small x y a b = ap₂ (mul (wide m)) (mod-eq_of_lt a) (mod-eq_of_lt b)
