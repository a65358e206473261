-- `hear_all` meets its contract. The loop's invariant: i frames are heard in order, their areas, maps and results stand where they belong, the
-- rest is as it was lent, and the record is the one that these frames leave.
use Prim.Native.Nat.{◌-◌}
use Rattle.link.specs.Replay.Turns.{Replaying}
use Rattle.link.proofs.replaying.hear_all.Given as goal

abbrev pub invariant-loop-i : goal.invariant-loop-i
invariant-loop-i l = Replaying l.initial.next l.f l.slots l.marks l.initial.areas l.initial.maps l.initial.results l.i l.areas l.maps l.results l.next

abbrev pub decreases-loop-i : goal.decreases-loop-i
decreases-loop-i l = l.frames - l.i
