-- `decoder::correct::take_out` meets its contract. The loop's invariant (`Taking`): the first j sums are done, and the next term of the course is at hand.
use native.Mathlib.Omega.{arith}
use borrow.Author.Rules.{rules}
use Rattle.decoder.specs.Corrections.{taking_start, taking_turn}
use Rattle.decoder.proofs.correct.take_out.Goals as goal

pub loop-sum-init : goal.loop-sum-init
loop-sum-init c = taking_start (search rules)

pub loop-sum-preserved : goal.loop-sum-preserved
loop-sum-preserved c = taking_turn (omega arith) c.times-term.ensures c.loop-sum.invariant
