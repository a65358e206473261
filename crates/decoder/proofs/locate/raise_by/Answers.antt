-- `decoder::locate::raise_by` meets its contract. The loop's invariant: the points before `i` have had their turn.
use native.Mathlib.Omega.{arith}
use Rattle.decoder.specs.Candidates.{raised_more}
use Rattle.decoder.proofs.locate.raise_by.Goals as goal

pub loop-i-preserved : goal.loop-i-preserved
loop-i-preserved g c = raised_more g.row.M _ _ _ _ _ _ (omega arith) c.times.ensures c.loop-i.invariant
