-- Rows of an array as vectors of the theory.
-- Assumes nothing.
use Rattle.std.specs.Prelude.{◌≡◌, List, ℕ, suc, ◌+◌, ◌-◌, ◌≤◌, ◌<◌, length, set, replicate}
use Rattle.std.proofs.Common.{ap, ap₂, ◌∙◌, length-set, get_or-set_same, get_or-set_other}
use Rattle.std.proofs.Math.Decide.{ℕ_discrete}
use native.Mathlib.Omega.{arith}
use Rattle.std.specs.Int.Bits.{bit_xor, xor_zero_r}
use Rattle.algebra.specs.Tests.{at}
use Rattle.algebra.specs.Lists.{Filled}
use Rattle.algebra.specs.Xor.{xor_assoc}
use Rattle.algebra.specs.Kernel.{dot, dot_zero, dot_suc, dot_ext}
use Rattle.field.specs.Elements.{prod}
use Rattle.field.proofs.Elements.{K}
use Rattle.field.specs.Lanes.{Products, scaled_left}

-- the numbers of v from b on
abbrev pub row : List ℕ → ℕ → ℕ → ℕ
row v b i = at v (b + i)

-- ---- a row times a window

-- the row of v at b, times the numbers of sums from j on: d products
unfoldable pub row_dot : (m d : ℕ) (v : List ℕ) (b : ℕ) (sums : List ℕ) (j : ℕ) → ℕ
row_dot m d v b sums j = dot (K m) d (row v b) (at sums) j

row_dot_suc : (m d : ℕ) (v : List ℕ) (b : ℕ) (sums : List ℕ) (j : ℕ) → row_dot m (suc d) v b sums j ≡ bit_xor (prod m (at v b) (at sums j)) (row_dot m d v (suc b) sums (suc j))
unfolding row_dot
row_dot_suc m d v b sums j = dot_suc (K m) d (row v b) (at sums) j ∙ ap₂ bit_xor (ap (λ (i : ℕ). prod m (at v i) (at sums j)) (omega arith)) (dot_ext (K m) d _ _ (at sums) (suc j) λ l h. ap (at v) (omega arith))

-- the first l products are summed
pub record Dotted (m d : ℕ) (v : List ℕ) (b : ℕ) (sums : List ℕ) (j l sum : ℕ) : Type 0 where
  pub within : l ≤ d
  pub rest : bit_xor sum (row_dot m (d - l) v (b + l) sums (j + l)) ≡ row_dot m d v b sums j

module _ {m d : ℕ} {v : List ℕ} {b : ℕ} {sums : List ℕ} {j : ℕ} where
  pub dotted_more : {l sum : ℕ} {r w products : List ℕ} → Dotted m d v b sums j l sum → l < d → d ≤ 16 → Filled 16 (row v b) 16 r → Filled 16 (row sums j) 16 w
      → Products m r w products → Dotted m d v b sums j (l + 1) (bit_xor sum (at products l))
  dotted_more {l} {sum} {r} {w} {products} p h u s t q = record {
    within = omega arith;
    rest =
        let f : d - l ≡ suc (d - (l + 1)) = omega arith in
        let g : b + (l + 1) ≡ suc (b + l) = omega arith in
        let k : j + (l + 1) ≡ suc (j + l) = omega arith in
        let e : at products l ≡ prod m (at v (b + l)) (at sums (j + l)) = rw (q.each l (omega arith), s.first l (omega arith), t.first l (omega arith)) in
        rw (g, k, e) (xor_assoc sum _ _ ∙ rw (f, row_dot_suc m (d - (l + 1)) v (b + l) sums (j + l)) at p.rest);
  }

  pub dotted_all : {l sum : ℕ} → Dotted m d v b sums j l sum → d ≤ l → sum ≡ row_dot m d v b sums j
  unfolding row_dot
  dotted_all {l} {sum} p h =
      let e : d - l ≡ 0 = omega arith in
      rw (e, dot_zero (K m) (row v (b + l)) (at sums) (j + l), xor_zero_r) at p.rest

-- ---- a row that takes in another one

-- the row at b of t is that of s times x, plus the row at c times y; all else is as it was
pub record Combined (m b c d x y : ℕ) (s t : List ℕ) : Type 0 where
  pub size : length t ≡ length s
  pub new : (l : ℕ) → l < d → at t (b + l) ≡ bit_xor (prod m x (at s (b + l))) (prod m y (at s (c + l)))
  pub low : (i : ℕ) → i < b → at t i ≡ at s i
  pub high : (i : ℕ) → b + d ≤ i → at t i ≡ at s i

module _ {m b c x y : ℕ} {s : List ℕ} where
  -- a turn of the loop that makes it, from the products of the two rows as they were
  pub combined_more : {l : ℕ} {t r q own other : List ℕ} → Combined m b c l x y s t → l < 16 → b + l < length s → Filled 16 (row s b) 16 r → Filled 16 (row s c) 16 q
      → Products m (replicate 16 x) r own → Products m (replicate 16 y) q other → Combined m b c (l + 1) x y s (set t (b + l) (bit_xor (at own l) (at other l)))
  combined_more {l} {t} {r} {q} {own} {other} κ k h f g o u =
      let e : bit_xor (at own l) (at other l) ≡ bit_xor (prod m x (at s (b + l))) (prod m y (at s (c + l))) =
      rw (scaled_left m x r own o l k, scaled_left m y q other u l k, f.first l k, g.first l k) in
      record {
        size = length-set t (b + l) _ ∙ κ.size;
        new = λ i v. elim (ℕ_discrete i l) [
          | yes a ↦ rw (a, get_or-set_same t (b + l) _ 0 (omega (arith, κ.size))) e
          | no a ↦ get_or-set_other t (b + l) (b + i) _ 0 (omega arith) ∙ κ.new i (omega arith)
        ];
        low = λ i v. get_or-set_other t (b + l) i _ 0 (omega arith) ∙ κ.low i v;
        high = λ i v. get_or-set_other t (b + l) i _ 0 (omega arith) ∙ κ.high i (omega arith);
      }
