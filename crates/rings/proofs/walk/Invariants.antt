-- `walk` meets its contract. The invariant: byte i is the next of the branch, `cell` is the cell of its turn, and the steps of the branch below i
-- are taken (proofs/Walking.antt).
use Prim.Native.Nat.{◌-◌}
use lib.ListN.{length}
use Rattle.rings.proofs.Walking.{Walking}
use Rattle.rings.proofs.walk.Given as goal

abbrev pub invariant-loop-i : goal.invariant-loop-i
invariant-loop-i l =
    Walking l.unit l.k l.q l.branches l.first l.initial.memory l.initial.bytes l.cell l.i l.memory l.bytes

abbrev pub decreases-loop-i : goal.decreases-loop-i
decreases-loop-i l = length l.initial.bytes - l.i
