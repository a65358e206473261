-- `decoder::correct::weight` meets its contract: the powers of 1 are 1, and those of a are the locators.
use borrow.Author.Rules.{rules}
use Rattle.decoder.specs.Corrections.{weighs_zero, weighs_one}
use Rattle.decoder.proofs.correct.weight.Goals as goal

pub returns-then-b-eq0 : goal.returns-then-b-eq0
returns-then-b-eq0 c = weighs_zero _ _ c.if-b-eq0.true

pub returns : goal.returns
returns c = weighs_one _ _ (search rules)
