-- `decoder::locate::Places::candidates` meets its contract. The loop's invariant: the places before `i` have their flags.
use Rattle.algebra.specs.Tests.{at}
use Rattle.algebra.specs.Lists.{Filled}
use Rattle.decoder.specs.Candidates.{flag_of, value_at}
use Rattle.decoder.proofs.locate.Places.candidates.Given as goal

abbrev pub invariant-loop-i : goal.invariant-loop-i
invariant-loop-i l = let p = l.self in Filled 255 (λ k. flag_of p.m (at l.marks k) (value_at p.m p.n l.v l.d k)) l.i l.flags
