-- `decoder::kernel::Vectors::units` meets its contract: each turn sets one entry of the diagonal. The invariant: the first s rows have their 1, and
-- nothing behind the diagonal is set.
use mathlib.Core.Path.{refl}
use Rattle.algebra.specs.Tests.{below}
use Rattle.decoder.specs.Elimination.{units_none}
use Rattle.decoder.proofs.kernel.Vectors.units.Goals as goal

pub loop-s-init : goal.loop-s-init
unfolding below
loop-s-init c = units_none _ refl tt
