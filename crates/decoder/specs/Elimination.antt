-- The elimination without division, in place: the rows of v at 0, 9, 18, .. are vectors, and flags say which are alive. Each window costs at most one
-- vector its life, so of t + 1 vectors one is left after t windows.
-- Assumes nothing.
use Rattle.std.specs.Prelude.{◌≡◌, refl, ◌≢◌, List, ℕ, suc, ◌+◌, ◌*◌, ◌%◌, ◌^◌, ◌≤◌, ◌<◌, T, length, get_or, set, replicate, Bool, true, false}
use Rattle.std.proofs.lemmas.List.{get_or-replicate}
use Rattle.std.proofs.Math.Path.{sym}
use Rattle.std.proofs.Math.Bool.{Bool-discrete}
use Rattle.std.proofs.Common.{◌∙◌, not-suc-le-zero, mod-eq_of_lt, add-one, arith, length-set, get_or-set_same, get_or-set_other}
use Rattle.std.proofs.Math.Decide.{ℕ_discrete, dec_lt}
use Rattle.algebra.specs.Sets.{count, count_all, count_drop}
use Rattle.algebra.specs.Tests.{at, below, below_at}
use Rattle.algebra.specs.Lists.{Filled}
use Rattle.algebra.specs.Kernel.{Fine, Fine-unit, Fine-keep, Fine-comb, Fine-ext, Fine-same, comb, dot_ext}
use Rattle.field.specs.Elements.{wide, one_below}
use Rattle.field.proofs.Elements.{K, known}
use Rattle.decoder.specs.Rows.{row, row_dot, Combined}

-- the vector s has degree s, and is orthogonal to the windows of sums below j
abbrev pub Vec : (m d : ℕ) (sums : List ℕ) (j : ℕ) (v : List ℕ) (s : ℕ) → Type 0
Vec m d sums j v s = Fine (K m) d (at sums) j (row v (s * 9)) s

-- the vector s is alive
abbrev pub Alive : (alive : List Bool) (s : ℕ) → Type 0
Alive alive s = get_or alive s false ≡ true

pub dead : {b : Bool} → b ≡ false → b ≢ true
dead e a = cc

-- whether it is
abbrev pub living : (alive : List Bool) (s : ℕ) → Dec (Alive alive s)
living alive s = Bool-discrete (get_or alive s false) true

-- a vector of t + 1 coefficients that is not zero, and orthogonal to the first t windows of sums
pub record KernelVector (m t : ℕ) (sums r : List ℕ) : Type 0 where
  pub degree : ℕ
  pub fine : Fine (K m) (suc t) (at sums) t (at r) degree

-- after j windows: each vector alive is orthogonal to them, and at most j have died
pub record Eliminated (m d : ℕ) (sums : List ℕ) (j : ℕ) (v : List ℕ) (alive : List Bool) : Type 0 where
  pub size : length v ≡ 88
  pub flags : length alive ≡ 9
  pub fine : (s : ℕ) → s < d → Alive alive s → Vec m d sums j v s
  pub many : d ≤ j + count (living alive) d

-- ---- the start: unit vectors

-- the first s rows have their 1 on the diagonal, and all behind the diagonal is 0
pub record Units (s : ℕ) (v : List ℕ) : Type 0 where
  pub size : length v ≡ 88
  pub ones : (i : ℕ) → i < s → at v (i * 10) ≡ 1
  pub zeros : (i l : ℕ) → i < l → l < 9 → at v (i * 9 + l) ≡ 0

pub units_none : (v : List ℕ) → length v ≡ 88 → T (below 1 v) → Units 0 v
units_none v e z = record { size = e; ones = λ i h. absurd (not-suc-le-zero h); zeros = λ i l a b. omega (arith, below_at 1 v z (i * 9 + l) (omega arith)) }

pub eliminated_none : (m d : ℕ) (sums v : List ℕ) (alive : List Bool) → d ≤ 9 → Units 9 v → alive ≡ replicate 9 true → Eliminated m d sums 0 v alive
eliminated_none m d sums v alive h u f = record {
  size = u.size;
  flags = rw f refl;
  fine = λ s g b.
      let e : s * 9 + s ≡ s * 10 = omega arith in
      Fine-unit (K m) d (at sums) (row v (s * 9)) s g (rw (e, u.ones s (omega arith), mod-eq_of_lt (one_below (wide m) (known m))) (omega arith)) λ l c k. rw (u.zeros s l c (omega arith)) (K m).Z-zero;
  many = omega (arith, count_all (living alive) d λ s g. rw (f, get_or-replicate 9 s true false (omega arith)) refl);
}

-- ---- one window: its pivot

-- A vector misses a window where their product does not count as zero. No vector before s that is alive misses the window at j.
pub record Passed (m d : ℕ) (sums : List ℕ) (j : ℕ) (v : List ℕ) (alive : List Bool) (s : ℕ) : Type 0 where
  pub within : s ≤ d
  pub before : (i : ℕ) → i < s → Alive alive i → row_dot m d v (i * 9) sums j % 2 ^ wide m ≡ 0

-- s is the first vector alive that misses it, or d where none does
pub record Pivot (m d : ℕ) (sums : List ℕ) (j : ℕ) (v : List ℕ) (alive : List Bool) (s : ℕ) : Type 0 where
  pub passed : Passed m d sums j v alive s
  pub lives : s < d → Alive alive s
  pub misses : s < d → row_dot m d v (s * 9) sums j % 2 ^ wide m ≢ 0

module _ {m d : ℕ} {sums : List ℕ} {j : ℕ} {v : List ℕ} {alive : List Bool} where
  -- those that were passed stay as they are
  kept : {s : ℕ} → Eliminated m d sums j v alive → Passed m d sums j v alive s → (i : ℕ) → i < s → Alive alive i → Vec m d sums (suc j) v i
  unfolding row_dot
  kept ε p i h a = Fine-keep (K m) d (at sums) j (row v (i * 9)) i (ε.fine i (omega (arith, p.within)) a) (p.before i h a)

  -- a window that no vector misses
  pub eliminated_same : {p : ℕ} → Eliminated m d sums j v alive → Pivot m d sums j v alive p → d ≤ p → Eliminated m d sums (j + 1) v alive
  eliminated_same ε π h = rw add-one record { size = ε.size; flags = ε.flags; fine = λ s g. kept ε π.passed s (omega arith); many = omega (arith, ε.many) }

-- ---- one window: the vectors behind its pivot

-- half way: the vectors before s are orthogonal to the window at j too; x is the product of the pivot p and the window
pub record Clearing (m d : ℕ) (sums : List ℕ) (j p x s : ℕ) (v : List ℕ) (alive : List Bool) : Type 0 where
  pub size : length v ≡ 88
  pub flags : length alive ≡ 9
  pub past : (i : ℕ) → i < s → Alive alive i → Vec m d sums (suc j) v i
  pub next : (i : ℕ) → s ≤ i → i < d → Alive alive i → Vec m d sums j v i
  pub behind : p < s
  pub pivot : Vec m d sums j v p
  pub number : x ≡ row_dot m d v (p * 9) sums j
  pub misses : x % 2 ^ wide m ≢ 0
  pub many : d ≤ suc j + count (living alive) d

module _ {m d : ℕ} {sums : List ℕ} {j : ℕ} {v : List ℕ} {alive : List Bool} where
  -- the pivot dies
  pub clearing_none : {p : ℕ} → Eliminated m d sums j v alive → Pivot m d sums j v alive p → p < d → d ≤ 9
      → Clearing m d sums j p (row_dot m d v (p * 9) sums j) (p + 1) v (set alive p false)
  clearing_none {p} ε π h l = record {
    size = ε.size;
    flags = length-set alive p false ∙ ε.flags;
    past = λ i g a. elim (ℕ_discrete i p) [
      | yes e ↦ absurd (dead (get_or-set_same alive p false false (omega (arith, ε.flags))) (rw e at a))
      | no ne ↦ kept ε π.passed i (omega arith) (rw (get_or-set_other alive p i false false ne) at a)
    ];
    next = λ i g k a. ε.fine i k (rw (get_or-set_other alive p i false false (omega arith)) at a);
    behind = omega arith;
    pivot = ε.fine p h (π.lives h);
    number = refl;
    misses = π.misses h;
    many = omega (arith, ε.many, count_drop (living alive) (living (set alive p false)) d p λ k g ne a. rw (get_or-set_other alive p k false false ne) a);
  }

  module _ {p x s : ℕ} (τ : Clearing m d sums j p x s v alive) where
    -- a vector that is not alive
    pub clearing_dead : ¬ Alive alive s → Clearing m d sums j p x (s + 1) v alive
    clearing_dead e = record {
      size = τ.size;
      flags = τ.flags;
      past = λ i h a. elim (ℕ_discrete i s) [ yes f ↦ absurd (e (rw f at a)) | no ne ↦ τ.past i (omega arith) a ];
      next = λ i h. τ.next i (omega arith);
      behind = omega (arith, τ.behind);
      pivot = τ.pivot;
      number = τ.number;
      misses = τ.misses;
      many = τ.many;
    }

    -- one that is: the pivot goes into it
    module _ {y : ℕ} {w : List ℕ} (h : s < d) (few : d ≤ 9) (a : Alive alive s) (e : y ≡ row_dot m d v (s * 9) sums j) (κ : Combined m (s * 9) (p * 9) d x y v w) where
      same : (i : ℕ) → i ≢ s → (l : ℕ) → l < d → row w (i * 9) l ≡ row v (i * 9) l
      same i ne l g = elim (dec_lt i s) [ yes b ↦ κ.low (i * 9 + l) (omega arith) | no b ↦ κ.high (i * 9 + l) (omega arith) ]

      away : (k i : ℕ) → i ≢ s → Vec m d sums k v i → Vec m d sums k w i
      away k i ne f = Fine-ext (K m) d (at sums) k (row v (i * 9)) (row w (i * 9)) i (same i ne) f

      made : (l : ℕ) → l < d → row w (s * 9) l ≡ comb (K m) (row_dot m d v (p * 9) sums j) (row v (s * 9)) (row_dot m d v (s * 9) sums j) (row v (p * 9)) l
      made l g = rw (← τ.number, ← e) (κ.new l g)

      pub clearing_more : Clearing m d sums j p x (s + 1) w alive
      unfolding row_dot
      clearing_more = record {
        size = κ.size ∙ τ.size;
        flags = τ.flags;
        past = λ i g b. elim (ℕ_discrete i s) [
          | yes f ↦ rw f (Fine-ext (K m) d (at sums) (suc j) _ (row w (s * 9)) s made
              (Fine-comb (K m) d (at sums) j (row v (s * 9)) s (row v (p * 9)) p (τ.next s (omega arith) h a) τ.pivot τ.behind (rw (← τ.number) τ.misses)))
          | no ne ↦ away (suc j) i ne (τ.past i (omega arith) b)
        ];
        next = λ i g k b. away j i (omega arith) (τ.next i (omega arith) k b);
        behind = omega (arith, τ.behind);
        pivot = away j p (omega (arith, τ.behind)) τ.pivot;
        number = τ.number ∙ sym (dot_ext (K m) d (row w (p * 9)) (row v (p * 9)) (at sums) j (same p (omega (arith, τ.behind))));
        misses = τ.misses;
        many = τ.many;
      }

-- ---- the end: a vector that is still alive

-- the sums with room behind them are the sums, as far as a window reaches
pub kernel_vector : {m t j : ℕ} {sums long v r : List ℕ} {alive : List Bool} (s : ℕ) → t ≤ 8 → j ≡ t → Filled 24 (at sums) 16 long → Eliminated m (t + 1) long j v alive → s < t + 1 → Alive alive s
    → Filled 16 (row v (s * 9)) 16 r → KernelVector m t sums r
kernel_vector {m} {t} {j} {sums} {long} {v} {r} {alive} s h e p ε l a f = record {
  degree = s;
  fine = Fine-same (K m) (suc t) (at long) (at sums) t (at r) s (λ i g. p.first i (omega arith))
      (Fine-ext (K m) (suc t) (at long) t (row v (s * 9)) (at r) s (λ i g. f.first i (omega arith)) (rw (add-one, e) at (ε.fine s l a)));
}
