-- The product by a, which is 2: moved up by one place, and the polynomial's rest added where a term fell out. It is tested at every byte, for
-- each m; and below the field's width the powers of a are those of the number 2.
-- Assumes nothing.
use Rattle.std.specs.Prelude.{◌≡◌, ◌≢◌, Bool, true, false, ℕ, zero, suc, ◌+◌, ◌-◌, ◌%◌, ◌^◌, ◌<◌, ◌≤◌, T, eqb, if◌then◌else◌}
use Rattle.std.proofs.Common.{ap, ◌∙◌, arith, eqb→eq, pow-add}
use Rattle.std.proofs.Math.Nat.{mul-mod_right}
use Rattle.algebra.specs.Tests.{each, each_at}
use Rattle.algebra.specs.Xor.{◌⊕◌}
use Rattle.algebra.specs.Numbers.{rest_below, mul-zero}
use Rattle.algebra.specs.Horner.{pow}
use Rattle.field.specs.Field.{times, reduce, product, power, mul, a^}
use Rattle.field.specs.Elements.{wide, wide_3, wide_8, numbers, prod, one_below}
use Rattle.field.specs.Doubles.{doubled_by}
use Rattle.field.proofs.Elements.{known, K, prod_below, pow_power}

is_double : ℕ → ℕ → ℕ → ℕ → Bool
is_double m k c x = eqb (doubled_by k c x) (mul m (2 % 2 ^ m) (x % 2 ^ m))

rule3 : T (each 256 (is_double 3 2 3))
unfolding each is_double doubled_by ◌⊕◌ times reduce product
rule3 = tt

rule8 : T (each 256 (is_double 8 7 29))
unfolding each is_double doubled_by ◌⊕◌ times reduce product
rule8 = tt

pub double_3 : (m x : ℕ) → m ≡ 3 → x < 256 → doubled_by 2 3 x ≡ prod m 2 x
unfolding is_double
double_3 m x e l = rw (wide_3 m e) (eqb→eq _ _ (each_at 256 (is_double 3 2 3) rule3 x l))

pub double_8 : (m x : ℕ) → m ≢ 3 → x < 256 → doubled_by 7 29 x ≡ prod m 2 x
unfolding is_double
double_8 m x e l = rw (wide_8 m e) (eqb→eq _ _ (each_at 256 (is_double 8 7 29) rule8 x l))

-- ---- powers of a, and of the number 2

is_power : ℕ → ℕ → Bool
is_power m i = eqb (a^ m i) (2 ^ i)

powers_3 : T (each 3 (is_power 3))
unfolding each is_power ◌⊕◌ times reduce product power
powers_3 = tt

powers_8 : T (each 8 (is_power 8))
unfolding each is_power ◌⊕◌ times reduce product power
powers_8 = tt

power_two : (three : Bool) (i : ℕ) → i < (if three then 3 else 8) → a^ (if three then 3 else 8) i ≡ 2 ^ i
unfolding is_power
power_two true i l = eqb→eq _ _ (each_at 3 (is_power 3) powers_3 i l)
power_two false i l = eqb→eq _ _ (each_at 8 (is_power 8) powers_8 i l)

pub pow_two : (m i : ℕ) → i < wide m → pow (K m) 2 i ≡ 2 ^ i
unfolding wide
pow_two m i l = pow_power m i ∙ power_two (eqb m 3) i l

pub pow_below : (m k : ℕ) → pow (K m) 2 k < 2 ^ wide m
unfolding pow
pow_below m zero = one_below (wide m) (known m)
pow_below m (suc k) = prod_below m 2 (pow (K m) 2 k)

-- a term above the field's width is no element
pub prod_high : (m x b : ℕ) → wide m ≤ b → prod m x (2 ^ b) ≡ 0
prod_high m x b l =
    let e : b ≡ wide m + (b - wide m) = omega arith in
    let z : 2 ^ b % 2 ^ wide m ≡ 0 = ap (λ (y : ℕ). 2 ^ y % 2 ^ wide m) e ∙ ap (λ (y : ℕ). y % 2 ^ wide m) (pow-add 2 (wide m) (b - wide m)) ∙ mul-mod_right (2 ^ wide m) (2 ^ (b - wide m)) in
    ap (mul (wide m) (x % 2 ^ wide m)) z ∙ mul-zero (wide m) (numbers (wide m) (known m)) (x % 2 ^ wide m) (rest_below (wide m) (numbers (wide m) (known m)) x)
