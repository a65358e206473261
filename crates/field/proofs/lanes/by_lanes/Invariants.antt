-- `field::lanes::by_lanes` meets its contract. The loop's invariant: the first i entries are the products.
use Rattle.algebra.specs.Lists.{Filled}
use Rattle.field.specs.Lanes.{product_at}
use Rattle.field.proofs.lanes.by_lanes.Given as goal

abbrev pub invariant-loop-i : goal.invariant-loop-i
invariant-loop-i g l = Filled 16 (product_at g.row.M l.x l.y) l.i l.products
