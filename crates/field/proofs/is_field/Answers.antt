-- `field::is_field` meets its contract: its two tests are those of the definition, in the same order.
use borrow.Author.Tests.{eq-eqb, ne_eqb}
use Rattle.field.specs.Answers.{is_field}
use Rattle.field.proofs.is_field.Goals as goal

pub returns-then-m-eq3 : goal.returns-then-m-eq3
unfolding is_field
returns-then-m-eq3 c = simp (eq-eqb _ _ c.if-m-eq3.true)

pub returns-else-m-eq3 : goal.returns-else-m-eq3
unfolding is_field
returns-else-m-eq3 c = simp (ne_eqb _ _ c.if-m-eq3.false)
