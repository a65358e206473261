-- Powers of an element as the code makes them: with a product the exponents add up, and with a power of a power they multiply.
-- Assumes nothing.
use mathlib.Core.Path.{◌≡◌, sym, ap, ap₂, ◌∙◌}
use Prim.Native.Nat.{ℕ, ◌+◌, ◌-◌, ◌*◌, ◌%◌, ◌^◌, ◌<◌}
use native.Mathlib.Nat.{mod-lt, mod-eq_of_lt}
use lib.Pow.{pow_pos}
use Rattle.field.specs.Field.{modulus, mul}
use Rattle.field.specs.Raised.{raised, raised_one, raised_below, raised_add, raised_mul}
use Rattle.field.specs.Powers.{raised_inverse}
use Rattle.field.specs.Elements.{wide, prod}
use Rattle.field.proofs.Elements.{known}

module _ (m x : ℕ) where
  open (known m).rules use {degree, room}

  small : x % 2 ^ wide m < 2 ^ wide m
  small = mod-lt x (pow_pos (wide m))

  -- x^k, of x taken below 2^m
  abbrev to : ℕ → ℕ
  to = raised (wide m) (modulus (wide m)) (x % 2 ^ wide m)

  to_below : (k : ℕ) → to k < 2 ^ wide m
  to_below = raised_below (wide m) (modulus (wide m)) degree room _

  -- y stands for x^k
  pub record Raises (k y : ℕ) : Type 0 where
    pub is : y % 2 ^ wide m ≡ to k

  pub raises_one : Raises 1 x
  raises_one = record { is = sym (raised_one (wide m) (modulus (wide m)) degree room _ small) }

  product_is : (i j y z r : ℕ) → Raises i y → Raises j z → r ≡ prod m y z → r ≡ to (i + j)
  product_is i j y z r a b e = e ∙ ap₂ (mul (wide m)) a.is b.is ∙ raised_add (wide m) (modulus (wide m)) degree room _ small i j

  pub raises_more : (i j y z r : ℕ) → Raises i y → Raises j z → r ≡ prod m y z → Raises (i + j) r
  raises_more i j y z r a b e = record { is = rw (product_is i j y z r a b e) (mod-eq_of_lt (to_below (i + j))) }

  -- a power of a power, made in the field of the width w, which is m's
  pub raises_power : (w j k y r : ℕ) → wide m ≡ w → Raises j y → r ≡ raised w (modulus w) y k → y < 2 ^ w → Raises (j * k) r
  raises_power w j k y r same a e fits =
      let own : r ≡ raised (wide m) (modulus (wide m)) (y % 2 ^ wide m) k = rw (same, mod-eq_of_lt fits) e in
      let power : r ≡ to (j * k) = own ∙ rw a.is (raised_mul (wide m) (modulus (wide m)) degree room _ small j k) in
      record { is = rw power (mod-eq_of_lt (to_below (j * k))) }

  -- the power by 2^m - 2 is the inverse
  pub raises_inverse : (i j y z r : ℕ) → i + j ≡ 2 ^ wide m - 2 → Raises i y → Raises j z → r ≡ prod m y z
      → (r < 2 ^ wide m) × (0 < x % 2 ^ wide m → prod m x r ≡ 1)
  raises_inverse i j y z r last a b e =
      let whole : r ≡ to (2 ^ wide m - 2) = product_is i j y z r a b e ∙ ap to last in
      let fits : r < 2 ^ wide m = rw whole (to_below (2 ^ wide m - 2)) in
      (fits, λ h. ap (mul (wide m) (x % 2 ^ wide m)) (mod-eq_of_lt fits ∙ whole) ∙ raised_inverse (known m).rules _ h small)
