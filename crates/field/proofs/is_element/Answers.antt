-- `field::is_element` meets its contract: at m = 3 it tests against 2^3, and every byte is below 2^8.
use borrow.Author.Rules.{rules}
use borrow.Author.Tests.{lt-ltb, ne_eqb}
use Rattle.field.specs.Elements.{wide_3, wide_8}
use Rattle.field.specs.Answers.{is_element}
use Rattle.field.proofs.is_element.Goals as goal

pub returns-then-m-ne3 : goal.returns-then-m-ne3
unfolding is_element
returns-then-m-ne3 c = simp (wide_8 _ c.if-m-ne3.true, ne_eqb _ _ c.if-m-ne3.true, lt-ltb c.args.x 256 (search rules))

pub returns-else-m-ne3 : goal.returns-else-m-ne3
unfolding is_element
returns-else-m-ne3 c = simp (wide_3 _ c.if-m-ne3.false)
