-- Document 01, "Word code": the value of a word, and the figures e, f and bits, which Figures defines.
-- Assumes nothing.
use Rattle.std.specs.Prelude.{List, [], ◌∷◌, ℕ}
use Rattle.algebra.specs.Xor.{◌⊕◌}
use Rattle.field.specs.Field.{mul}
pub use Rattle.word.specs.Figures.{error_at, bits_at, error_of_marked, error_of_same, error_of_wrong}
unfoldable pub use Rattle.word.specs.Figures.{error_of, errors, marked, bits}

-- the word's value at x, by Horner's rule from v on: place 0 holds the highest power
unfoldable pub value_from : (m : ℕ) → ℕ → ℕ → List ℕ → ℕ
value_from m v x [] = v
value_from m v x (c ∷ w) = value_from m (mul m v x ⊕ c) x w

abbrev pub value : (m : ℕ) → List ℕ → ℕ → ℕ
value m w x = value_from m 0 x w
