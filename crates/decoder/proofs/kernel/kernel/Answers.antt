-- `decoder::kernel::kernel` meets its contract: of t + 1 vectors at most t die, so one is alive after t windows, and it is orthogonal to all of them. The
-- invariant: each vector alive is orthogonal to the first j windows, and at most j have died.
use native.Mathlib.Omega.{arith}
use Rattle.decoder.specs.Elimination.{eliminated_none, kernel_vector}
use Rattle.decoder.proofs.kernel.kernel.Goals as goal

pub loop-j-init : goal.loop-j-init
loop-j-init c = eliminated_none _ _ _ _ _ (omega arith) c.units-vectors.ensures.rows c.units-vectors.ensures.alive

pub returns : goal.returns
returns c =
    let o = c.loop-j in
    let f = rw c.unwrap-s.ensures at c.first.ensures in
    kernel_vector _ (omega arith) (omega arith) c.lengthened-long.ensures o.invariant f.0 f.1 c.lanes.ensures
