-- What the code gives for the product by a, one byte at a time. That it is this product is proved in proofs/Doubles.antt.
-- Assumes nothing.
use Rattle.std.specs.Prelude.{Bool, true, false, ℕ, ◌*◌, ◌/◌, ◌%◌, ◌^◌, ◌≤◌, eqb, if◌then◌else◌}
use Rattle.std.proofs.Common.{arith}
use Rattle.std.specs.Int.Bits.{bit_xor}
use Rattle.field.specs.Elements.{wide}

-- what the code gives for one byte: the k lowest places moved up, and c added where the place behind them had a term
unfoldable pub doubled_by : ℕ → ℕ → ℕ → ℕ
doubled_by k c x = bit_xor (x % 2 ^ k * 2) (x / 2 ^ k % 2 * c)

-- a width is at most 8
pub wide_le : (m : ℕ) → wide m ≤ 8
unfolding wide
wide_le m = go (eqb m 3)
  where
    go : (three : Bool) → (if three then 3 else 8) ≤ 8
    go true = omega arith
    go false = omega arith
