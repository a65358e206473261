-- Runs of damaged slots, and how many places of one word they hold (document 01, Block interleaver and frame, Delay line).
-- Assumes nothing.
use Rattle.std.specs.Prelude.{◌≡◌, List, [], ◌∷◌, ◌⊎◌, ◌≢◌, ℕ, zero, suc, ◌+◌, ◌*◌, ◌≤◌, ◌<◌}
use Rattle.std.proofs.Common.{sym, inl, inr, ⊎_elim, mul-suc, mul-zero, arith}
use Rattle.std.proofs.Math.Logic.Dec
use Rattle.std.proofs.Math.Decide.{ℕ_discrete, dec_lt, dec_le}
use Rattle.algebra.specs.Sets.{count, count_or, count_mono, count_pos, count_once, count_none, either}

-- slot s is one of the k from slot a on
abbrev pub In : ℕ → ℕ → ℕ → Type 0
In a k s = (a ≤ s) × (s < a + k)

in? : (a k s : ℕ) → Dec (In a k s)
in? a k s = Dec.and (dec_le a s) (dec_lt s (a + k))

-- slot s is in one of the runs, each a first slot and a length
abbrev pub Hit : List (ℕ × ℕ) → ℕ → Type 0
Hit [] s = ⊥
Hit (r ∷ rs) s = In r.0 r.1 s ⊎ Hit rs s

pub hit? : (rs : List (ℕ × ℕ)) (s : ℕ) → Dec (Hit rs s)
hit? [] s = no λ h. h
hit? (r ∷ rs) s = either (in? r.0 r.1 s) (hit? rs s)

-- all runs start at slot b or later
abbrev pub From : ℕ → List (ℕ × ℕ) → Type 0
From b [] = Unit {0}
From b (r ∷ rs) = (b ≤ r.0) × From b rs

-- runs of at most L slots, with at least G clean slots between them
abbrev pub Clear : ℕ → ℕ → List (ℕ × ℕ) → Type 0
Clear L G [] = Unit {0}
Clear L G (r ∷ rs) = (r.1 ≤ L) × From (r.0 + r.1 + G) rs × Clear L G rs

-- different places of a word of n travel in slots at least D apart
abbrev pub Spaced : ℕ → ℕ → (ℕ → ℕ) → Type 0
Spaced D n slot = (p q : ℕ) → p < n → q < n → p ≢ q → slot p ≤ slot q → slot p + D ≤ slot q

-- all places of a word travel in slots at most G apart
abbrev pub Near : ℕ → ℕ → (ℕ → ℕ) → Type 0
Near G n slot = (p q : ℕ) → p < n → q < n → slot q ≤ slot p + G

-- ---- one run

once : (D n a : ℕ) (slot : ℕ → ℕ) → Spaced D n slot → (i j : ℕ) → i < n → j < n → In a D (slot i) → In a D (slot j) → i ≡ j
once D n a slot f i j h k u v = elim (ℕ_discrete i j) [
  | yes e ↦ e
  | no e ↦ elim (dec_le (slot i) (slot j)) [
    | yes l ↦ absurd (omega (arith, f i j h k e l))
    | no l ↦ absurd (omega (arith, f j i k h (λ g. e (sym g)) (omega arith)))
  ]
]

-- A run of D * t slots holds at most t places of a word whose slots are D apart.
run : (D n t a : ℕ) (slot : ℕ → ℕ) → Spaced D n slot → count (λ p. in? a (D * t) (slot p)) n ≤ t
run D n zero a slot f = omega (arith, count_none (λ p. in? a (D * 0) (slot p)) n λ p h i. omega (arith, mul-zero D, i.0, i.1))
run D n (suc t) a slot f =
    omega (
      arith,
      count_or (λ p. in? a (D * suc t) (slot p)) (λ p. in? a D (slot p)) (λ p. in? (a + D) (D * t) (slot p)) n
          (λ p h i. elim (dec_lt (slot p) (a + D)) [ yes l ↦ inl (i.0, l) | no l ↦ inr (omega arith, omega (arith, mul-suc D t)) ]),
      count_once (λ p. in? a D (slot p)) n (λ i j h k u v. once D n a slot f i j h k u v),
      run D n t (a + D) slot f,
    )

-- ---- several runs

from_hit : (b s : ℕ) (rs : List (ℕ × ℕ)) → From b rs → Hit rs s → b ≤ s
from_hit b s [] f h = absurd h
from_hit b s (r ∷ rs) f (inl i) = omega (arith, f.0, i.0)
from_hit b s (r ∷ rs) f (inr i) = from_hit b s rs f.1 i

-- Runs with G clean slots between them never touch one word both.
pub never_both : (G n : ℕ) (slot : ℕ → ℕ) → Near G n slot → (a k : ℕ) (rs : List (ℕ × ℕ)) → From (a + k + G) rs → (p q : ℕ) → p < n → q < n → In a k (slot p) → ¬ Hit rs (slot q)
never_both G n slot g a k rs f p q h l i j = omega (arith, from_hit _ _ rs f j, g p q h l, i.1)

-- No word has more than t places in all the runs together.
pub runs : (D G n t : ℕ) (slot : ℕ → ℕ) → Spaced D n slot → Near G n slot → (rs : List (ℕ × ℕ)) → Clear (D * t) G rs → count (λ p. hit? rs (slot p)) n ≤ t
runs D G n t slot f g [] c = omega (arith, count_none (λ p. hit? [] (slot p)) n λ p h i. i)
runs D G n t slot f g (r ∷ rs) c = elim (dec_lt 0 (count (λ p. in? r.0 r.1 (slot p)) n)) [
  | yes l ↦
      let (k, h, a) = count_pos (λ p. in? r.0 r.1 (slot p)) n l in
      omega (
        arith,
        count_mono (λ p. hit? (r ∷ rs) (slot p)) (λ p. in? r.0 (D * t) (slot p)) n
            (λ p u i. ⊎_elim (λ b. (b.0, omega (arith, b.1, c.0))) (λ b. absurd (never_both G n slot g r.0 r.1 rs c.1 k p h u a b)) i),
        run D n t r.0 slot f,
      )
  | no l ↦
      omega (
        arith,
        count_or (λ p. hit? (r ∷ rs) (slot p)) (λ p. in? r.0 r.1 (slot p)) (λ p. hit? rs (slot p)) n (λ p u i. i),
        runs D G n t slot f g rs c.2,
      )
]
