-- `field::shifts::times` meets its contract: every m but 3 names the field of 256 elements.
use Rattle.field.specs.Elements.{wide, wide_8}
use Rattle.field.proofs.shifts.times.Goals as goal

pub returns : goal.returns
unfolding wide
returns c = rw (wide_8 _ c.if-m-eq3.false) c.by_terms-2.ensures
