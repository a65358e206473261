-- `packed::factor::scaled` meets its contract.
use Rattle.packed.specs.Factors.{scaled}
use borrow.Author.Rules.{rules}
use Rattle.packed.proofs.factor.scaled.Goals as goal

pub returns : goal.returns
returns c = scaled _ _ _ _ _ (search rules) (search rules) (search rules) (search rules) c.before.word_by.ensures c.word_by-2.ensures
