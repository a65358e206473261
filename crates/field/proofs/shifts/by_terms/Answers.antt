-- `field::shifts::by_terms` meets its contract. The loop's invariant (`Terms`): what is summed, and the product that is left to add, are
-- the whole product.
use mathlib.Core.Path.{◌≡◌}
use Prim.Native.Nat.{◌+◌, ◌-◌}
use native.Mathlib.Omega.{arith}
use borrow.Author.Rules.{rules}
use Rattle.field.proofs.Terms.{terms_start, terms_turn, terms_end}
use Rattle.field.proofs.shifts.by_terms.Goals as goal

pub loop-term-init : goal.loop-term-init
loop-term-init g c = terms_start _ _ _ _ _ _ (search rules) (search rules) c.low-a.ensures c.low-b.ensures

pub loop-term-preserved : goal.loop-term-preserved
loop-term-preserved g c =
    let e : 8 - (c.loop-term.term + 1) ≡ 8 - c.loop-term.term - 1 = omega arith in
    rw e (terms_turn _ _ _ _ _ _ _ _ c.loop-term.invariant (omega arith) (search rules) c.double-b.ensures)

pub returns : goal.returns
returns g c = terms_end _ _ _ _ _ _ _ c.loop-term.invariant (omega arith)
