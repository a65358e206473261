-- Rows on their way into columns: each store adds one place to those that hold what they should.
-- Assumes nothing.
use mathlib.Core.Path.{◌≡◌, sym, ap, ◌∙◌}
use mathlib.Core.Logic.{◌≢◌}
use mathlib.Core.List.{List}
use Prim.Native.Nat.{ℕ, ◌+◌, ◌*◌, ◌/◌, ◌%◌, ◌≤◌, ◌<◌}
use native.Mathlib.Nat.{not-suc-le-zero, div-add-mod', mod-lt, div-lt_iff_lt-mul}
use native.Mathlib.Decide.{ℕ_discrete, dec_lt}
use native.Mathlib.Omega.{arith}
use lib.ListN.{length, get_or, set, length-set}
use lib.Seq.{get_or-set_same, get_or-set_other}
use Rattle.algebra.specs.Lists.{tabulated}
use Rattle.interleave.specs.Block.{transposed, low, high, in_block}
use Rattle.interleave.specs.Rows.{RowsMoved}

pub rows_all : (m n w : ℕ) (s t : List ℕ) → 0 < m → m ≤ w → RowsMoved m n w s t → t ≡ transposed m n s
unfolding transposed
rows_all m n w s t h l p =
    tabulated t (n * m) _ 0 p.size λ a u.
    rw (div-add-mod' a m) at (p.bytes (a / m) (a % m) ((div-lt_iff_lt-mul h).1 u) (omega (arith, mod-lt a h)))

-- the places i * m + v with D i v hold what they should
pub record Held (m n : ℕ) (D : ℕ → ℕ → Type 0) (s t : List ℕ) : Type 0 where
  pub size : length t ≡ n * m
  pub bytes : (i v : ℕ) → i < n → v < m → D i v → get_or t (i * m + v) 0 ≡ get_or s (v * n + i) 0

-- half way: the rows before `row` are moved, and of the K rows from it on the bytes below i, and byte i of the first k
abbrev pub Moving : (m n row K i k : ℕ) (s t : List ℕ) → Type 0
Moving m n row K i k s t = Held m n (λ j v. (v < row + K) × (row ≤ v → j ≤ i) × (row + k ≤ v → j < i)) s t

module _ (m n row K : ℕ) (s t : List ℕ) where
  pub moving_none : RowsMoved m n row s t → Moving m n row K 0 0 s t
  moving_none p = record {
    size = p.size;
    bytes = λ j v h l d. elim (dec_lt v row) [
      | yes u ↦ p.bytes j v h u
      | no u ↦ absurd (not-suc-le-zero (d.2 (omega arith)))
    ];
  }

  -- byte i is moved of all of them
  pub moving_next : (i k : ℕ) → K ≤ k → Moving m n row K i k s t → Moving m n row K (i + 1) 0 s t
  moving_next i k l p = record { size = p.size; bytes = λ j v a b d. p.bytes j v a b (d.0, λ h. omega (arith, d.2 (omega arith)), λ h. absurd (omega arith)) }

  pub moving_all : (i : ℕ) → row + K ≤ m → n ≤ i → Moving m n row K i 0 s t → RowsMoved m n (row + K) s t
  moving_all i h l p = record { size = p.size; bytes = λ j v a b. p.bytes j v a (omega arith) (b, λ _. omega arith, λ _. omega arith) }

module _ (m n row K i k : ℕ) (s t : List ℕ) (rows : row + K ≤ m) (byte : i < n) (next : k < K) where
  -- where byte i of row row + k is put
  to_room : i * m + (row + k) < n * m
  to_room = in_block i (row + k) m n byte (omega arith)

  -- one store: the other places keep what they hold
  pub moving_more : Moving m n row K i k s t → Moving m n row K i (k + 1) s (set t (i * m + row + k) (get_or s ((row + k) * n + i) 0))
  moving_more p = record {
    size = length-set t _ _ ∙ p.size;
    bytes = λ j v a b d. elim (ℕ_discrete (j * m + v) (i * m + row + k)) [
      | no ne ↦ get_or-set_other t _ (j * m + v) _ 0 ne ∙ p.bytes j v a b (d.0, d.1, λ h. below j v d ne h)
      | yes same ↦
          let at : j * m + v ≡ i * m + (row + k) = omega arith in
          let column : v ≡ row + k = sym (low j v b) ∙ ap (λ (z : ℕ). z % m) at ∙ low i (row + k) (omega arith) in
          let byte : j ≡ i = sym (high j v b) ∙ ap (λ (z : ℕ). z / m) at ∙ high i (row + k) (omega arith) in
          rw (same, column, byte) (get_or-set_same t _ _ 0 (omega (arith, p.size, to_room)))
    ];
  }
    where
      below : (j v : ℕ) → (v < row + K) × (row ≤ v → j ≤ i) × (row + (k + 1) ≤ v → j < i) → j * m + v ≢ i * m + row + k → row + k ≤ v → j < i
      below j v d ne h = elim (ℕ_discrete v (row + k)) [
        | no more ↦ d.2 (omega arith)
        | yes e ↦ elim (ℕ_discrete j i) [
          | yes g ↦ absurd (ne (omega (arith, ap (λ (z : ℕ). z * m) g)))
          | no g ↦ omega (arith, d.1 (omega arith))
        ]
      ]
