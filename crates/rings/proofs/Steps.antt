-- The branch and the turn of a step are the rest and the quotient of its number by the branches.
-- Assumes nothing.
use mathlib.Core.Path.{◌≡◌, sym, ap, ◌∙◌}
use mathlib.Core.Logic.{◌≢◌}
use Prim.Native.Nat.{ℕ, ◌+◌, ◌-◌, ◌*◌, ◌/◌, ◌%◌, ◌≤◌, ◌<◌}
use Rattle.std.proofs.Common.{min}
use native.Mathlib.Nat.{add-mul, mod-le, mod-lt, mod-eq_of_lt, mod-add-mod, div-add-mod', add-mul-mod_self_right, add-mul-div_right, div-eq_of_lt}
use native.Mathlib.Omega.{arith}

-- from step s on, bytes whose places differ modulo I go to different branches
from_sum : (I s i : ℕ) → 0 < I → i % I ≡ ((s + i) % I + (I - s % I)) % I
from_sum I s i h =
    let e : s + i + (I - s % I) ≡ i + (s / I + 1) * I = omega (arith, div-add-mod' s I, mod-lt s h, add-mul (s / I) 1 I) in
    sym (mod-add-mod (s + i) I (I - s % I) ∙ ap (λ (z : ℕ). z % I) e ∙ add-mul-mod_self_right i (s / I + 1) I)

pub other_branch : (I s i j : ℕ) → 0 < I → i % I ≢ j % I → (s + i) % I ≢ (s + j) % I
other_branch I s i j h ne e = ne (from_sum I s i h ∙ ap (λ (z : ℕ). (z + (I - s % I)) % I) e ∙ sym (from_sum I s j h))

-- a byte of the same branch, t rounds later
pub same_branch : (I s i j t : ℕ) → 0 < I → j ≡ i + t * I → ((s + j) % I ≡ (s + i) % I) × ((s + j) / I ≡ (s + i) / I + t)
same_branch I s i j t h e =
    let g : s + j ≡ s + i + t * I = omega arith in
    (ap (λ (z : ℕ). z % I) g ∙ add-mul-mod_self_right (s + i) t I, ap (λ (z : ℕ). z / I) g ∙ add-mul-div_right (s + i) t h)

-- the step r after step p: on the next branch, or on the first and a turn later
pub next_branch : (I p r : ℕ) → 0 < I → r ≡ p + 1 → p % I + 1 ≢ I → (r % I ≡ p % I + 1) × (r / I ≡ p / I)
next_branch I p r h a ne =
    let e : r ≡ p % I + 1 + p / I * I = omega (arith, div-add-mod' p I) in
    let l : p % I + 1 < I = omega (arith, mod-lt p h) in
    (ap (λ (z : ℕ). z % I) e ∙ add-mul-mod_self_right (p % I + 1) (p / I) I ∙ mod-eq_of_lt l, ap (λ (z : ℕ). z / I) e ∙ add-mul-div_right (p % I + 1) (p / I) h ∙ omega (arith, div-eq_of_lt l))

pub first_branch : (I p r : ℕ) → 0 < I → r ≡ p + 1 → p % I + 1 ≡ I → (r % I ≡ 0) × (r / I ≡ p / I + 1)
first_branch I p r h a g =
    let e : r ≡ 0 + (p / I + 1) * I = omega (arith, div-add-mod' p I, add-mul (p / I) 1 I) in
    (ap (λ (z : ℕ). z % I) e ∙ add-mul-mod_self_right 0 (p / I + 1) I ∙ mod-eq_of_lt h, ap (λ (z : ℕ). z / I) e ∙ add-mul-div_right 0 (p / I + 1) h ∙ omega (arith, div-eq_of_lt h))

-- a run of n bytes meets as many branches as it has bytes, and at most all
pub met_all : (I n j i : ℕ) → j < n → 0 < I → min I n ≤ i → j % I < i
met_all I n j i h u l = omega (arith, mod-le j I, mod-lt j u)
