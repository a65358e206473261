-- `packed::pair::moved` meets its contract: the two words' number is divided.
use borrow.Author.Rules.{rules}
use Rattle.algebra.specs.Bytes.{moved_one}
use Rattle.packed.proofs.pair.moved.Goals as goal

pub returns-clause-number : goal.returns-clause-number
returns-clause-number c = moved_one _ _ (search rules) (search rules)
