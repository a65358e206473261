-- Rows of one word are put in place: the second table, and the bits' second words, have zeros.
use Rattle.checks.specs.OneWord.{no_put}
use Rattle.checks.proofs.rows.ArrayU64128Table.put.Goals as goal

pub returns-clause-upper : goal.returns-clause-upper
returns-clause-upper c = no_put _ _ c.requires.1
