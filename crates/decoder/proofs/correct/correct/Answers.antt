-- `decoder::correct::correct` meets its contract. The loop's invariant (`Correcting`): the places before i are corrected, the others as they were, and the
-- power sums are those of the word as it is.
use Rattle.std.proofs.Common.{arith}
use Rattle.decoder.specs.Corrections.{correcting_take, correcting_pass}
use Rattle.decoder.proofs.correct.correct.Goals as goal
use Rattle.decoder.proofs.correct.correct.Goals.{then-flags-i-ne0, else-flags-i-ne0}

pub loop-i-preserved : goal.loop-i-preserved
loop-i-preserved c =
    let o = c.loop-i in
    let listing = c.of-listing.ensures in
    elim c.if-flags-i-ne0.branch [
      | then-flags-i-ne0 w ↦ rw (w.word-is, w.rest-is) (w.take_out.ensures.size, correcting_take (omega arith) o.invariant.1 (omega arith) (c.args.places.now.located.entry _ (omega arith)) ((rw listing.same at (w.error_value-e.ensures c.args.flags.now)) listing.listed) w.weight.ensures w.times.ensures w.take_out.ensures.taken)
      | else-flags-i-ne0 w ↦ rw (w.word-is, w.rest-is) (o.invariant.0, correcting_pass (omega arith) o.invariant.1 (omega arith))
    ]
