-- `run` meets its contract. The invariant: the first i branches of the run have taken all their steps, and `branch` and q are those of the next
-- (proofs/Branches.antt).
use mathlib.Core.Path.{refl, ◌∙◌}
use Prim.Native.Nat.{◌+◌}
use native.Mathlib.Omega.{arith}
use native.Mathlib.Nat.{mod-lt}
use Rattle.rings.specs.Rings.{order_small}
use Rattle.rings.specs.Run.{ring_fits}
use Rattle.rings.proofs.Steps.{met_all}
use Rattle.rings.proofs.Branches.{branches_none, branches_more, branches_round, branches_all}
use Rattle.rings.proofs.run.Goals as goal
use Rattle.rings.proofs.run.Goals.{then-branch-branches, else-branch-branches}

pub loop-i-init : goal.loop-i-init
loop-i-init c = branches_none _ _ _ _ _ _

pub walk-requires : goal.walk-requires
walk-requires c =
    let l = c.loop-i in
    let here = mod-lt (c.args.start + l.i) c.requires.branches.0 in (
      omega (arith, c.loop-i-test.true, c.min-met.ensures),
      c.requires.branches.1,
      rw (l.invariant.exact, c.ring_of-k.ensures, l.invariant.stands) (ring_fits _ _ _ _ _ _ c.requires (order_small c.args.back c.args.branches _ here)),
    )

pub loop-i-preserved : goal.loop-i-preserved
loop-i-preserved c =
    elim c.if-branch-branches.branch [
      | then-branch-branches w ↦ rw (w.branch'-is, w.q-is) (branches_round _ _ _ _ _ _ _ c.requires _ _ _ _ _ _ _ c.loop-i.invariant (rw c.ring_of-k.ensures at c.walk.ensures) c.walk.auto.memory c.walk.auto.bytes w.if-branch-branches.true)
      | else-branch-branches w ↦ rw (w.branch'-is, w.q-is) (branches_more _ _ _ _ _ _ _ c.requires _ _ _ _ _ _ _ c.loop-i.invariant (rw c.ring_of-k.ensures at c.walk.ensures) c.walk.auto.memory c.walk.auto.bytes w.if-branch-branches.false)
    ]

pub returns : goal.returns
returns c =
    branches_all _ _ _ _ _ _ _ c.requires _ _ _ _ _ _
    (λ j h. met_all _ _ j _ h c.requires.branches.0 (omega (arith, c.min-met.ensures))) (c.position_after.ensures ∙ rw c.loop-i.invariant.count refl) c.loop-i.invariant
