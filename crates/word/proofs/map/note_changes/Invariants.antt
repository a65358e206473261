-- `map::note_changes` meets its contract. The loop's invariant: the first i marks are those of the map.
use lib.ListN.{length}
use Rattle.algebra.specs.Lists.{Filled}
use Rattle.word.specs.Map.{change_at}
use Rattle.word.proofs.map.note_changes.Given as goal

abbrev pub invariant-loop-i : goal.invariant-loop-i
invariant-loop-i l = Filled (length l.received) (change_at l.received l.work) l.i l.map
