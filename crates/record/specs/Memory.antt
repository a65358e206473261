-- Document 02, No. 7: the memory of the 32 numbers just below the last, as a number of 32 binary digits. The digit of weight 2^(d-1) is 1
-- where the number at distance d below the last was accepted.
-- Assumes nothing.
use Rattle.std.specs.Prelude.{ℕ, ◌+◌, ◌-◌, ◌*◌, ◌/◌, ◌%◌, ◌^◌, Bool, not, ◌==◌, bit_or}
use Rattle.algebra.specs.Tests.{one_if, total}
pub mod Laws

-- the number at distance d was seen
unfoldable pub seen_at : ℕ → ℕ → Bool
seen_at memory d = memory / 2 ^ (d - 1) % 2 == 1

-- once the number at distance d is seen
unfoldable pub seeing : ℕ → ℕ → ℕ
seeing memory d = bit_or memory (2 ^ (d - 1))

-- once the last has moved on by `step`: the old last comes to stand at distance 1, and it and those below it move by the rest of the step;
-- what comes to lie beyond the 32 is forgotten
unfoldable pub slid : ℕ → ℕ → ℕ
slid memory step = ((2 * memory + 1) * 2 ^ (step - 1)) % 2 ^ 32

-- how many of the 32 are unseen
unfoldable pub unseen_in : ℕ → ℕ
unseen_in memory = total 32 (λ i. one_if (not (seen_at memory (i + 1))))
