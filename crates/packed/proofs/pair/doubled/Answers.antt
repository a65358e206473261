-- `packed::pair::doubled` meets its contract.
use Rattle.packed.specs.Doubles.{doubled_pair}
use borrow.Author.Rules.{rules}
use Rattle.packed.proofs.pair.doubled.Goals as goal

pub returns-clause-each : goal.returns-clause-each
returns-clause-each c = doubled_pair _ _ _ _ _ (search rules) (search rules) (search rules) (search rules) c.double_word.ensures.each c.double_word-2.ensures.each
