-- The block interleaver row by row: what stands in the target once some of the source's rows have been moved (document 01, Block interleaver).
-- Assumes nothing.
use Rattle.std.specs.Prelude.{◌≡◌, List, ℕ, ◌+◌, ◌*◌, ◌<◌, length, get_or}

-- the first w of m rows of n bytes are in their columns: byte i of row v stands at place i * m + v
pub record RowsMoved (m n w : ℕ) (source target : List ℕ) : Type 0 where
  pub size : length target ≡ n * m
  pub bytes : (i v : ℕ) → i < n → v < w → get_or target (i * m + v) 0 ≡ get_or source (v * n + i) 0
