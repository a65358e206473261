-- A call's answer, from what the calls inside it have answered.
-- Assumes nothing.
use mathlib.Core.Path.{◌≡◌, sym, ap, ◌∙◌}
use mathlib.Core.Logic.{◌≢◌}
use mathlib.Core.Bool.{Bool, true}
use Prim.Native.Nat.{ℕ, ◌%◌, ◌^◌, ◌<◌}
use native.Mathlib.Nat.{mod-eq_of_lt}
use native.Mathlib.Omega.{arith}
use borrow.Author.Tests.{ltb-true}
use Rattle.field.specs.Field.{mul, a^}
use Rattle.field.specs.Elements.{wide, prod}
use Rattle.field.specs.Answers.{done, is_field, is_element, product_of, power_of, inverse_of}
use Rattle.field.specs.Once.{wide_field}
use Rattle.field.proofs.Once.{inverse_is}

module _ (m : ℕ) (field : is_field m ≡ true) where
  -- what the call's test has said of x
  pub element : (x : ℕ) (t u : Bool) → t ≡ is_element (wide m) x → t ≡ u → is_element m x ≡ u
  element x t u e f = rw (wide_field m field) at (sym e ∙ f)

  below : (x : ℕ) → is_element m x ≡ true → x < 2 ^ m
  unfolding is_element
  below x h = ltb-true x (2 ^ m) h

  pub product_is : (x y r : ℕ) → is_element m x ≡ true → is_element m y ≡ true → r ≡ prod m x y → done r ≡ product_of m x y
  unfolding product_of
  product_is x y r h k e =
      simp (field, h, k) (ap done (e ∙ rw (wide_field m field, mod-eq_of_lt (below x h), mod-eq_of_lt (below y k))))

  pub power_is : (i r : ℕ) → r ≡ a^ (wide m) i → done r ≡ power_of m i
  unfolding power_of
  power_is i r e = simp field (ap done (rw (wide_field m field) at e))

  pub inverse_found : (x r : ℕ) → is_element m x ≡ true → x ≢ 0 → (r < 2 ^ wide m) × (0 < x % 2 ^ wide m → prod m x r ≡ 1)
      → done r ≡ inverse_of m x
  inverse_found x r h nz found =
      let fits : r < 2 ^ m = rw (wide_field m field) at found.0 in
      let whole : x % 2 ^ m ≡ x = mod-eq_of_lt (below x h) in
      let one : 0 < x % 2 ^ m → mul m (x % 2 ^ m) (r % 2 ^ m) ≡ 1 = rw (wide_field m field) at found.1 in
      sym (inverse_is m x field (omega arith) (below x h) r fits (rw (whole, mod-eq_of_lt fits) at (one (omega arith))))
