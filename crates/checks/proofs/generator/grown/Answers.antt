-- `checks::generator::grown` meets its contract. The invariant: g has the first j roots, and f are the doubles of the next.
use native.Mathlib.Omega.{arith}
use Rattle.checks.specs.Growth.{growing_none, growing_more, factor_first, factor_next, first_below}
use borrow.Author.Rules.{rules}
use Rattle.checks.proofs.generator.grown.Goals as goal

pub factor_of-f-requires : goal.factor_of-f-requires
factor_of-f-requires c = first_below _ _ _ c.first_root.ensures

pub loop-j-init : goal.loop-j-init
loop-j-init c = growing_none _ _ _ _ _ c.none-g.ensures.0 c.none-g.ensures.1 (factor_first _ _ _ _ c.first_root.ensures c.factor_of-f.ensures)

pub loop-j-preserved : goal.loop-j-preserved
loop-j-preserved c =
    let o = c.loop-j in
    growing_more _ _ _ _ _ _ _ _ _ _ _ _ _ (omega arith) (search rules) (search rules) o.invariant c.scaled.ensures c.down.ensures c.sum-g.ensures.number
    (factor_next _ _ _ _ _ o.invariant.factor c.double.ensures)
