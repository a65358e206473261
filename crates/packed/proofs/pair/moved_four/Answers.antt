-- `packed::pair::moved_four` meets its contract: the two words' number is divided.
use borrow.Author.Rules.{rules}
use Rattle.algebra.specs.Bytes.{moved_four}
use Rattle.packed.proofs.pair.moved_four.Goals as goal

pub returns-clause-number : goal.returns-clause-number
returns-clause-number c = moved_four _ _ (search rules) (search rules)
