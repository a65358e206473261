-- A row of one word meets its contract: the second table has zeros.
use Rattle.checks.specs.OneWord.{row_one}
use Rattle.checks.proofs.rows.ArrayU64128Table.row.Goals as goal

pub returns-clause-number : goal.returns-clause-number
returns-clause-number c = row_one c.args.self.now c.args.j
