-- `decoder::correct::take_out` meets its contract. The loop's invariant (`Taking`): the first j sums are done, and the next term of the course is at hand.
use Rattle.decoder.specs.Corrections.{Taking}
use Rattle.decoder.proofs.correct.take_out.Given as goal

abbrev pub invariant-loop-sum : goal.invariant-loop-sum
invariant-loop-sum l = Taking l.m l.initial.rest l.y l.x l.sum-index l.term l.rest
