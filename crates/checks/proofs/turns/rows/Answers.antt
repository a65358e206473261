-- `checks::turns::rows` meets its contract.
use Rattle.checks.specs.Rows.{both}
use Rattle.checks.proofs.turns.rows.Goals as goal

pub returns-clause-number : goal.returns-clause-number
unfolding both
returns-clause-number g c = cc (c.row.ensures.number, c.row-2.ensures.number, c.sum.ensures.number)
