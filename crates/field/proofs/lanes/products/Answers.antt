-- `field::lanes::products` meets its contract: a product depends on m by its width alone.
use Rattle.field.specs.Elements.{wide, wide_8}
use Rattle.field.specs.Lanes.{products_wide}
use Rattle.field.proofs.lanes.products.Goals as goal

pub returns : goal.returns
unfolding wide
returns c = products_wide _ 8 _ _ _ (wide_8 _ c.if-m-eq3.false) c.by_lanes-2.ensures
