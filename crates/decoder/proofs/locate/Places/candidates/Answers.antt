-- `decoder::locate::Places::candidates` meets its contract. The loop's invariant: the places before `i` have their flags.
use native.Mathlib.Omega.{arith}
use Rattle.decoder.specs.Candidates.{flags_all}
use Rattle.decoder.proofs.locate.Places.candidates.Goals as goal

pub returns : goal.returns
returns c = flags_all _ _ _ _ _ c.loop-i.i _ (omega arith) c.loop-i.invariant
