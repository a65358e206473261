-- `field::shifts::by_terms` meets its contract. The loop's invariant (`Terms`): what is summed, and the product that is left to add, are
-- the whole product.
use Prim.Native.Nat.{◌-◌}
use Rattle.field.proofs.Terms.{Terms}
use Rattle.field.proofs.shifts.by_terms.Given as goal

abbrev pub invariant-loop-term : goal.invariant-loop-term
invariant-loop-term g l = Terms g.row.M l.x l.y (8 - l.term) l.a l.b l.sum
