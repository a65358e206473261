-- The field of 8 elements: its table of powers, and the rule of it, tested once over the whole table.
-- Assumes nothing.
use Rattle.std.specs.Prelude.{refl, List, [], ◌∷◌, ℕ}
use Rattle.std.proofs.Common.{lit<}
use Rattle.algebra.specs.Xor.{◌⊕◌}
use Rattle.field.specs.Field.{times, reduce, product}
use Rattle.field.specs.Powers.{Rules}

-- the powers of a, from 1
unfoldable pub powers3 : List ℕ
powers3 =
    1 ∷ 2 ∷ 4 ∷ 3 ∷ 6 ∷ 7 ∷ 5 ∷ []

pub rules3 : Rules 3 11 powers3
unfolding ◌⊕◌ times reduce product powers3
rules3 =
    record {
      degree = refl;
      room = lit< tt;
      sized = refl;
      doubled = tt;
      once = tt;
    }
