-- `decoder::correct::correct` meets its contract. The loop's invariant (`Correcting`): the places before i are corrected, the others as they were, and the
-- power sums are those of the word as it is.
use Rattle.decoder.specs.Corrections.{Correcting}
use Rattle.std.proofs.Common.{◌≡◌, length}
use Rattle.decoder.proofs.correct.correct.Given as goal

abbrev pub invariant-loop-i : goal.invariant-loop-i
invariant-loop-i l = (length l.rest ≡ 16) × Correcting l.places.m l.places.n l.b l.flags l.sums l.initial.word l.i l.word l.rest
