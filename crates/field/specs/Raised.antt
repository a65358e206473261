-- An element by itself, any number of times. Algebra's `pow` is that of a ring, which the field becomes only with the inverse that is made here.
-- Assumes nothing.
use Rattle.std.specs.Prelude.{◌≡◌}
use Rattle.std.proofs.Common.{sym, ◌∙◌, zero-add, suc-add, mul-zero, arith}
use Rattle.std.proofs.Math.Path.{ap}
use Prim.Native.Nat.{ℕ, zero, suc, ◌+◌, ◌*◌, ◌/◌, ◌^◌, ◌<◌}
use Rattle.std.proofs.Math.Nat.{mul-suc}
use Rattle.std.proofs.Math.Pow.{pow-lt}
use Rattle.field.specs.Field.{product}
use Rattle.field.specs.Products.{product_one, product_comm, product_below, product_assoc}

-- x^k in the field of 2^m elements whose polynomial is p
unfoldable pub raised : ℕ → ℕ → ℕ → ℕ → ℕ
raised m p x zero = 1
raised m p x (suc k) = product m p x (raised m p x k)

module _ (m p : ℕ) (degree : p / 2 ^ m ≡ 1) (room : 1 < m) where
  pub raised_below : (x k : ℕ) → raised m p x k < 2 ^ m
  unfolding raised
  raised_below x zero = pow-lt {i = 0} {j = m} (omega arith)
  raised_below x (suc k) = product_below m p degree x (raised_below x k)

  pub raised_one : (x : ℕ) → x < 2 ^ m → raised m p x 1 ≡ x
  unfolding raised
  raised_one x l = product_comm m p x 1 l (pow-lt {i = 0} {j = m} (omega arith)) ∙ product_one m p x (omega arith) l

  pub raised_add : (x : ℕ) → x < 2 ^ m → (i j : ℕ) → product m p (raised m p x i) (raised m p x j) ≡ raised m p x (i + j)
  unfolding raised
  raised_add x l zero j = product_one m p (raised m p x j) (omega arith) (raised_below x j) ∙ ap (raised m p x) (sym (zero-add j))
  raised_add x l (suc i) j =
      product_assoc m p degree x (raised m p x i) (raised m p x j) l (raised_below x i) (raised_below x j)
      ∙ ap (product m p x) (raised_add x l i j) ∙ ap (raised m p x) (sym (suc-add i j))

  pub raised_mul : (x : ℕ) → x < 2 ^ m → (j k : ℕ) → raised m p (raised m p x j) k ≡ raised m p x (j * k)
  unfolding raised
  raised_mul x l j zero = ap (raised m p x) (sym (mul-zero j))
  raised_mul x l j (suc k) =
      let more : j + j * k ≡ j * suc k = omega (arith, mul-suc j k) in
      ap (product m p (raised m p x j)) (raised_mul x l j k) ∙ raised_add x l j (j * k) ∙ ap (raised m p x) more
