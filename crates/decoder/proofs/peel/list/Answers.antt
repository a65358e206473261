-- `decoder::peel::list` meets its contract. The loop's invariant (`Listed`): the flagged places before i are listed.
use native.Mathlib.Omega.{arith}
use lib.ListN.{length-set}
use Rattle.decoder.specs.Listing.{listed_none, listed_pass, listed_add}
use Rattle.decoder.proofs.peel.list.Goals as goal
use Rattle.decoder.proofs.peel.list.Goals.{then-flags-i-ne0, else-flags-i-ne0}

pub loop-i-init : goal.loop-i-init
loop-i-init c = (omega arith, omega arith, listed_none _ _)

pub loop-i-preserved : goal.loop-i-preserved
loop-i-preserved c =
    let o = c.loop-i in
    elim c.if-flags-i-ne0.branch [
      | then-flags-i-ne0 w ↦ rw (w.places-is, w.count-is) (omega arith, omega (arith, length-set o.places o.count o.i, o.invariant.1), listed_add (omega arith) (omega (arith, o.invariant.1)) o.invariant.2)
      | else-flags-i-ne0 w ↦ rw (w.places-is, w.count-is) (omega arith, o.invariant.1, listed_pass (omega arith) o.invariant.2)
    ]
