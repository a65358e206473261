-- `limits::symbols_of` meets its contract: the width of the field is 3 or 8.
use Rattle.field.specs.Elements.{wide_3, wide_8}
use Rattle.word.proofs.limits.symbols_of.Goals as goal

pub returns-then-m-eq3 : goal.returns-then-m-eq3
returns-then-m-eq3 c = rw (wide_3 _ c.if-m-eq3.true)

pub returns-else-m-eq3 : goal.returns-else-m-eq3
returns-else-m-eq3 c = rw (wide_8 _ c.if-m-eq3.false)
