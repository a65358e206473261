-- The field that m names, with its table of powers: algebra's `Ring`, on all numbers, and the order of a. All of it rests on the rules of the two
-- tables, which a wrong polynomial or a wrong table does not meet.
-- Assumes nothing.
use Rattle.std.specs.Prelude.{◌≡◌, ◌≢◌, Bool, true, false, eqb, if◌then◌else◌}
use Rattle.std.proofs.Math.Path.{refl, ap₂}
use Rattle.std.proofs.Common.{ap, ◌∙◌, arith}
use Prim.Native.Nat.{ℕ, zero, suc, ◌%◌, ◌^◌, ◌<◌}
use Rattle.std.proofs.Math.Nat.{mod-eq_of_lt}
use Rattle.std.specs.Int.Bits.{bit_xor}
use Rattle.algebra.specs.Xor.{same_below}
use Rattle.algebra.specs.Ring.{Ring}
use Rattle.algebra.specs.Horner.{pow}
use Rattle.algebra.specs.Numbers.{lift, rest_below}
use Rattle.field.specs.Field.{power, mul, a^}
use Rattle.field.specs.Powers.{power_below, power_not_one}
use Rattle.field.specs.Gf3.{powers3, rules3}
use Rattle.field.specs.Gf8.{powers8, rules8}
use Rattle.field.specs.Elements.{wide, Known, one_below, two_below, numbers, prod, prod_small}

-- those of the two fields, by whether m is 3
tables : (three : Bool) → Known (if three then 3 else 8)
tables true = record { powers = powers3; rules = rules3 }
tables false = record { powers = powers8; rules = rules8 }

pub known : (m : ℕ) → Known (wide m)
unfolding wide
known m = tables (eqb m 3)

-- the ring of the field that m names
abbrev pub K : ℕ → Ring
K m = lift (wide m) (numbers (wide m) (known m))

module _ (m : ℕ) where
  -- a product is an element, and 1 is the one of all elements
  pub prod_below : (x y : ℕ) → prod m x y < 2 ^ wide m
  prod_below x y = let f = numbers (wide m) (known m) in f.mul_lt _ _ (rest_below (wide m) f x) (rest_below (wide m) f y)

  pub prod_one : (x : ℕ) → x < 2 ^ wide m → prod m x 1 ≡ x
  prod_one x h = prod_small m x 1 h (one_below (wide m) (known m)) ∙ (numbers (wide m) (known m)).mul-one x h

  -- the theory's powers of 2 are those of a
  pub pow_power : (k : ℕ) → pow (K m) 2 k ≡ a^ (wide m) k
  unfolding pow power
  pow_power zero = refl
  pow_power (suc k) =
      ap₂ (mul (wide m)) (mod-eq_of_lt (two_below (wide m) (known m))) (ap (λ (z : ℕ). z % 2 ^ wide m) (pow_power k) ∙ mod-eq_of_lt (power_below (known m).rules k))

  pub two_nz : 2 % 2 ^ wide m ≢ 0
  two_nz e = omega (arith, e, mod-eq_of_lt (two_below (wide m) (known m)))

  -- a has the order 2^m - 1
  pub order : (n : ℕ) → n < 2 ^ wide m → (d : ℕ) → 0 < d → d < n → bit_xor (pow (K m) 2 d) 1 % 2 ^ wide m ≢ 0
  unfolding power
  order n h d a b z =
      power_not_one (known m).rules d a (omega arith)
      (same_below (wide m) (a^ (wide m) d) 1 (power_below (known m).rules d) (one_below (wide m) (known m)) (rw (← pow_power d) z))
