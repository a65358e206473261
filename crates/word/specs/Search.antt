-- The first list of n numbers below q that passes a test.
-- Assumes nothing.
use Rattle.std.specs.Prelude.{Bool, List, [], ◌∷◌, ℕ, zero, suc, if◌then◌else◌}
use Rattle.std.proofs.Math.Option.{Option, some, none, map}
pub mod Laws

-- a, or else b
abbrev pub or_else : Option (List ℕ) → Option (List ℕ) → Option (List ℕ)
or_else (some w) b = some w
or_else none b = b

-- the first of f 0, .., f (q - 1) that is something
pub first_of : ℕ → (ℕ → Option (List ℕ)) → Option (List ℕ)
first_of zero f = none
first_of (suc q) f = or_else (first_of q f) (f q)

pub search : ℕ → ℕ → (List ℕ → Bool) → Option (List ℕ)
search q zero test = if test [] then some [] else none
search q (suc n) test = first_of q λ x. map (λ w. x ∷ w) (search q n λ w. test (x ∷ w))
