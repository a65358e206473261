-- Two lists of sixteen multiplied entry by entry.
-- Assumes nothing.
use Rattle.std.specs.Prelude.{◌≡◌, List, ℕ, ◌+◌, ◌<◌, ◌≤◌, length, set, replicate}
use Rattle.std.proofs.Common.{arith}
use Rattle.std.proofs.lemmas.List.{get_or-replicate}
use Rattle.algebra.specs.Tests.{at}
use Rattle.algebra.specs.Lists.{Filled, filled_more}
use Rattle.field.specs.Elements.{wide, prod}

-- the list r holds the sixteen products of the entries of x and y
pub record Products (m : ℕ) (x y r : List ℕ) : Type 0 where
  pub size : length r ≡ 16
  pub each : (i : ℕ) → i < 16 → at r i ≡ prod m (at x i) (at y i)

-- one factor for all
pub scaled_left : (m f : ℕ) (y r : List ℕ) → Products m (replicate 16 f) y r → (i : ℕ) → i < 16 → at r i ≡ prod m f (at y i)
scaled_left m f y r p i l = rw (← get_or-replicate {A = ℕ} 16 i f 0 l) (p.each i l)

pub scaled_right : (m f : ℕ) (x r : List ℕ) → Products m x (replicate 16 f) r → (i : ℕ) → i < 16 → at r i ≡ prod m (at x i) f
scaled_right m f x r p i l = rw (← get_or-replicate {A = ℕ} 16 i f 0 l) (p.each i l)

-- ---- the loop that makes them

unfoldable pub product_at : ℕ → List ℕ → List ℕ → ℕ → ℕ
product_at m x y i = prod m (at x i) (at y i)

pub products_more : (m : ℕ) (x y : List ℕ) (i : ℕ) (products : List ℕ) (p : ℕ) → i < 16 → p ≡ prod m (at x i) (at y i)
    → Filled 16 (product_at m x y) i products → Filled 16 (product_at m x y) (i + 1) (set products i p)
unfolding product_at
products_more m x y i products p l e = filled_more 16 _ i products p l e

pub products_all : (m : ℕ) (x y : List ℕ) (i : ℕ) (products : List ℕ) → 16 ≤ i → Filled 16 (product_at m x y) i products → Products m x y products
unfolding product_at
products_all m x y i products h f = record { size = f.size; each = λ k l. f.first k (omega arith) }

-- those of another number that names the same field
pub products_wide : (m k : ℕ) (x y r : List ℕ) → wide m ≡ wide k → Products k x y r → Products m x y r
products_wide m k x y r w p = record { size = p.size; each = λ i l. rw w (p.each i l) }
