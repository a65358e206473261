-- `checks::tables::digit` meets its contract. Sixteen rows from four: each call doubles what stands.
use native.Mathlib.Omega.{arith}
use mathlib.Core.Path.{◌≡◌, refl, ◌∙◌}
use mathlib.Core.List.{List}
use Prim.Native.Nat.{ℕ}
use lib.ListN.{length, set, length-set}
use Rattle.checks.specs.Tables.{digits}
use Rattle.checks.proofs.tables.digit.Goals as goal

written : (table : List ℕ) (from : ℕ) → length table ≡ 128 → length (set table from 0) ≡ 128
written table from size = length-set table from 0 ∙ size

pub returns : goal.returns
returns c =
    digits _ _ _ _ _ _ _ _ _ _ _ _ (omega arith) refl refl refl refl c.twice.ensures c.twice-2.ensures c.twice-3.ensures c.twice-4.ensures
