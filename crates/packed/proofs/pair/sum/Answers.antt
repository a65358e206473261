-- `packed::pair::sum` meets its contract.
use borrow.Author.Rules.{rules}
use Rattle.algebra.specs.Bytes.{whole_xor}
use Rattle.packed.proofs.pair.sum.Goals as goal

pub returns-clause-number : goal.returns-clause-number
returns-clause-number c = whole_xor _ _ _ _ (search rules) (search rules)
