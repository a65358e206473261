-- `map::change_at` meets its contract: the test is the specification's, as a number.
use native.Mathlib.Omega.{arith}
use Rattle.word.specs.Figures.{bit_of}
use Rattle.word.specs.Map.{change_of}
use Rattle.word.proofs.map.change_at.Goals as goal

pub returns : goal.returns
unfolding change_of
returns c = rw c.from.ensures (let b = bit_of _ in (b.0, omega arith))
