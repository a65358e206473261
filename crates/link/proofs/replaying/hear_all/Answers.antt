-- `hear_all` meets its contract. The loop's invariant: i frames are heard in order, their areas, maps and results stand where they belong, the
-- rest is as it was lent, and the record is the one that these frames leave.
use native.Mathlib.Omega.{arith}
use Rattle.link.specs.Replay.Checks.{lies}
use Rattle.link.specs.Replay.Turns.{replaying_none, areas_same, replaying_more, replaying_all}
use Rattle.link.proofs.replaying.hear_all.Goals as goal

pub loop-i-init : goal.loop-i-init
loop-i-init c = replaying_none _ _ _ _ _ _ _

pub slice_bounds-area-end : goal.slice_bounds-area-end
slice_bounds-area-end c =
    let place = lies c.requires _ c.loop-i-test.true in
    omega (arith, areas_same _ _ _ _ _ _ _ _ _ _ _ _ c.loop-i.invariant c.requires)

pub loop-i-preserved : goal.loop-i-preserved
loop-i-preserved c =
    let told = c.hear-heard in
    replaying_more _ _ _ _ _ _ _ _ _ _ _ _ c.loop-i.invariant c.requires c.loop-i-test.true _ _ _ _ _ told.auto.area told.auto.map told.ensures c.put_result.ensures

pub returns : goal.returns
returns c = replaying_all _ _ _ _ _ _ _ _ _ _ _ _ c.loop-i.invariant c.requires (omega arith)
