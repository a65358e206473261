-- `decoder::peel::peel` meets its contract. The loop's invariant: the first j sums are those without the place (`Filled`).
use Rattle.algebra.specs.Lists.{Filled}
use Rattle.decoder.specs.Peeling.{without}
use Rattle.decoder.proofs.peel.peel.Given as goal

abbrev pub invariant-loop-j : goal.invariant-loop-j
invariant-loop-j l = Filled 16 (without l.m l.x l.sums) l.j l.rest
