-- `run` meets its contract. The invariant: the first i branches of the run have taken all their steps, and `branch` and q are those of the next
-- (proofs/Branches.antt).
use Rattle.rings.proofs.Branches.{Branches}
use Rattle.rings.proofs.run.Given as goal

abbrev pub invariant-loop-i : goal.invariant-loop-i
invariant-loop-i l =
    Branches l.back l.branches l.unit l.start l.initial.memory l.initial.bytes l.branch l.q l.i l.memory l.bytes
