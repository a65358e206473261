-- `count::count_errors` meets its contract. The loop's invariant: `e` is the sum over the places before `i`, each at most 1.
use mathlib.Core.Path.{refl, ◌∙◌}
use native.Mathlib.Omega.{arith}
use Rattle.algebra.specs.Tests.{total, total_more}
use Rattle.word.specs.Figures.{errors_to}
use Rattle.word.proofs.count.count_errors.Goals as goal

pub loop-i-init : goal.loop-i-init
loop-i-init c = (omega arith, omega arith, unfold total in refl)

pub loop-i-preserved : goal.loop-i-preserved
loop-i-preserved c = (omega arith, omega arith, total_more _ _ _ _ c.loop-i.invariant.2 c.error_at-e.ensures.0)

pub returns : goal.returns
returns c = (c.loop-i.invariant.2 ∙ errors_to _ _ _ _ (omega arith), omega arith)
