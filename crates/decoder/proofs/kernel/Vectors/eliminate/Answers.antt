-- `decoder::kernel::Vectors::eliminate` meets its contract: where no vector misses the window nothing has to change, and else only the pivot dies.
use Rattle.std.proofs.Common.{arith}
use Rattle.decoder.specs.Elimination.{clearing_none, eliminated_same}
use Rattle.decoder.proofs.kernel.Vectors.eliminate.Goals as goal

pub clear-requires-clause-clearing : goal.clear-requires-clause-clearing
clear-requires-clause-clearing c = clearing_none c.requires c.in-Some.ensures.1 c.in-Some.ensures.0 c.args.window.now.few

pub returns-in_default : goal.returns-in_default
returns-in_default c = eliminated_same c.requires c.in_default.ensures (omega arith)
