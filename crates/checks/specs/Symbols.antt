-- One symbol of a list, and four of them in one number.
-- Assumes nothing.
use Rattle.std.specs.Prelude.{◌≡◌, List, ℕ, ◌+◌, ◌*◌, ◌<◌}
use Rattle.algebra.specs.Tests.{at}

-- t is symbol i
pub record One (symbols : List ℕ) (i t : ℕ) : Type 0 where
  pub value : t ≡ at symbols i
  pub byte : t < 256

-- t is the four symbols from i on, the first in the lowest byte
pub record Four (symbols : List ℕ) (i t : ℕ) : Type 0 where
  pub value : t ≡ at symbols i + at symbols (i + 1) * 256 + at symbols (i + 2) * 65536 + at symbols (i + 3) * 16777216
  pub bytes : (j : ℕ) → at symbols j < 256
