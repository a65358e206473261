-- `checks::syndrome::points` meets its contract. The loop's invariant: the roots before `j` are laid down, and `x` is the root `j`.
use mathlib.Core.Path.{◌∙◌}
use native.Mathlib.Omega.{arith}
use Rattle.algebra.specs.Lists.{filled_more}
use Rattle.checks.specs.Roots.{root_next}
use Rattle.checks.proofs.syndrome.points.Goals as goal

pub loop-place-preserved : goal.loop-place-preserved
loop-place-preserved c =
    let o = c.loop-place in
    (c.double-x.ensures ∙ root_next _ _ o.place-index _ o.invariant.0, filled_more _ _ _ _ _ (omega arith) o.invariant.0 o.invariant.1)
