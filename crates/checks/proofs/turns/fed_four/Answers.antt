-- `checks::turns::fed_four` meets its contract.
use Rattle.checks.specs.Rows.{four}
use Rattle.checks.proofs.turns.fed_four.Goals as goal

pub returns-clause-number : goal.returns-clause-number
unfolding four
returns-clause-number g c = cc
