-- A run in place, one branch after the other (document 01, Delay line): at its step a byte and the cell of its ring change places.
-- Assumes nothing.
use Rattle.std.specs.Prelude.{List, ℕ, zero, suc, ◌+◌, ◌/◌, ◌%◌, length, get_or, set}
use Rattle.std.proofs.Math.Decide.{ℕ_discrete}
use Rattle.algebra.specs.Refusal.{if_zero}
use Rattle.algebra.specs.Sets.{put}
use Rattle.rings.specs.Rings.{ring}

-- what is lent to a run: the memory, and the bytes that go through it
pub record Lent : Type 0 where
  pub memory : List ℕ
  pub bytes : List ℕ

abbrev pub lent : List ℕ → List ℕ → Lent
lent m bs = record { memory = m; bytes = bs }

-- byte i and cell c of a ring of k units change places; without a ring the byte stays
abbrev pub swapped : ℕ → ℕ → ℕ → Lent → Lent
swapped k c i x = if_zero k x (lent (set x.memory c (get_or x.bytes i 0)) (set x.bytes i (get_or x.memory c 0)))

-- of the steps below n those with P, in order: byte i goes to cell c i of a ring of k i units
unfoldable pub taken : {P : ℕ → Type 0} → ((i : ℕ) → Dec (P i)) → (ℕ → ℕ) → (ℕ → ℕ) → ℕ → Lent → Lent
taken P? k c zero x = x
taken P? k c (suc i) x = put (P? i) (swapped (k i) (c i) i (taken P? k c i x)) (taken P? k c i x)

-- every I-th byte, from byte f on, goes through the ring of k units: at turn q, q + 1, ..
unfoldable pub walked : (M k q I f : ℕ) → List ℕ → List ℕ → Lent
walked M k q I f m bs = taken (λ i. ℕ_discrete (i % I) f) (λ i. k) (λ i. ring M k (q + i / I)) (length bs) (lent m bs)
