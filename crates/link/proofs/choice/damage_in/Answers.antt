-- `damage_in` meets its contract: each word adds its own 2e + f, at most 3 · 65535.
use mathlib.Core.Path.{refl, ◌∙◌}
use native.Mathlib.Omega.{arith}
use Rattle.algebra.specs.Tests.{total, total_more}
use Rattle.link.specs.Masts.Laws.{damage_to}
use Rattle.link.proofs.choice.damage_in.Goals as goal

pub loop-found-init : goal.loop-found-init
loop-found-init c = (omega arith, unfold total in refl)

pub loop-found-preserved : goal.loop-found-preserved
loop-found-preserved c = (omega arith, total_more _ _ _ _ c.loop-found.invariant.1 c.damage_of-sum.ensures.0)

pub returns : goal.returns
returns c = c.loop-found.invariant.1 ∙ damage_to _ _ (omega arith)
