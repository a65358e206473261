-- `checks::syndrome::syndromes` meets its contract. The loop's invariant: what is left of the word takes each lane to its value.
use native.Mathlib.Omega.{arith}
use Rattle.checks.specs.Syndromes.{partial_none, partial_more, partial_all}
use Rattle.checks.proofs.syndrome.syndromes.Goals as goal

pub loop-symbol-init : goal.loop-symbol-init
loop-symbol-init c = partial_none _ _ _

pub loop-symbol-preserved : goal.loop-symbol-preserved
loop-symbol-preserved c = partial_more _ _ _ _ _ _ _ (omega arith) c.points-points.ensures c.take_in-next.ensures c.loop-symbol.invariant

pub returns : goal.returns
returns c = partial_all _ _ _ _ _ (omega arith) c.loop-symbol.invariant
