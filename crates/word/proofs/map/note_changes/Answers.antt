-- `map::note_changes` meets its contract. The loop's invariant: the first i marks are those of the map.
use native.Mathlib.Omega.{arith}
use Rattle.algebra.specs.Lists.{filled_all}
use Rattle.word.specs.Map.{changes}
use Rattle.word.proofs.map.note_changes.Goals as goal

pub returns : goal.returns
unfolding changes
returns c = filled_all _ _ _ _ (omega (arith, c.loop-i.invariant.size)) c.loop-i.invariant
