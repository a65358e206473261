-- `field::lanes::by_lanes` meets its contract. The loop's invariant: the first i entries are the products.
use native.Mathlib.Omega.{arith}
use Rattle.field.specs.Lanes.{products_more, products_all}
use Rattle.field.proofs.lanes.by_lanes.Goals as goal

pub loop-i-preserved : goal.loop-i-preserved
loop-i-preserved g c = products_more _ _ _ _ _ _ (omega arith) c.times.ensures c.loop-i.invariant

pub returns : goal.returns
returns g c = products_all _ _ _ _ _ (omega arith) c.loop-i.invariant
