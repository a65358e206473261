-- `decoder::kernel::Window::combine` meets its contract: each number of the row is the sum of a product of each row, which were made before any was
-- written. The invariant: the first l numbers of the row are made, and all else is as it was.
use native.Mathlib.Omega.{arith}
use Rattle.decoder.specs.Rows.{combined_more}
use Rattle.decoder.proofs.kernel.Window.combine.Goals as goal

pub loop-l-preserved : goal.loop-l-preserved
loop-l-preserved c =
    let o = c.loop-l in
    combined_more o.invariant (omega arith) (omega arith) c.lanes.ensures c.lanes-2.ensures c.products-own.ensures c.products-other.ensures
