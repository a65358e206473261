-- `packed::factor::factor_of` meets its contract. The invariant: the first k products stand.
use mathlib.Core.Path.{refl}
use native.Mathlib.Omega.{arith}
use Rattle.packed.specs.Factors.{factoring_one, factoring_more}
use Rattle.packed.proofs.factor.factor_of.Goals as goal

pub loop-k-init : goal.loop-k-init
loop-k-init c = factoring_one _ _ _ c.requires refl refl

pub loop-k-preserved : goal.loop-k-preserved
loop-k-preserved c = factoring_more _ _ _ _ _ (omega arith) (omega arith) c.double.ensures c.loop-k.invariant
