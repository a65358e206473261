-- `field::sum` meets its contract: the code's exclusive or is the sum by definition.
use mathlib.Core.Path.{refl}
use Rattle.algebra.specs.Xor.{◌⊕◌}
use Rattle.field.proofs.sum.Goals as goal

pub returns : goal.returns
unfolding ◌⊕◌
returns c = refl
