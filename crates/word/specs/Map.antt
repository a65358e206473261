-- Document 02, No. 6: where a word was changed. The map has a mark for each place: 1 where the corrected word differs from the received one,
-- 0 elsewhere. A marked place that was right is 0.
-- Assumes nothing.
use Rattle.std.specs.Prelude.{not, List, ℕ, eqb, length, replicate}
use Rattle.algebra.specs.Tests.{at, one_if}
use Rattle.algebra.specs.Lists.{tabulate}
pub mod Laws

-- 1 where two symbols differ, else 0
unfoldable pub change_of : (x y : ℕ) → ℕ
change_of x y = one_if (not (eqb x y))

abbrev pub change_at : (received word : List ℕ) → ℕ → ℕ
change_at received word i = change_of (at received i) (at word i)

-- the map of a received word and what it is corrected to
unfoldable pub changes : (received word : List ℕ) → List ℕ
changes received word = tabulate (length received) (change_at received word)

-- the map of a word that is left as it was received
abbrev pub unchanged : List ℕ → List ℕ
unchanged received = replicate (length received) 0
