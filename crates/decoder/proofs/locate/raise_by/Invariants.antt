-- `decoder::locate::raise_by` meets its contract. The loop's invariant: the points before `i` have had their turn.
use Rattle.algebra.specs.Lists.{Filled}
use Rattle.decoder.specs.Candidates.{raised_at}
use Rattle.decoder.proofs.locate.raise_by.Given as goal

abbrev pub invariant-loop-i : goal.invariant-loop-i
invariant-loop-i g l = Filled 255 (raised_at g.row.M l.symbol l.values l.points) l.i l.next
