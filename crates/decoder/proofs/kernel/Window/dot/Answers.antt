-- `decoder::kernel::Window::dot` meets its contract: it adds up the row's products one by one. The invariant: what is summed, plus the rest of the
-- products, is the whole.
use Rattle.std.proofs.Common.{◌<◌, arith, length-take, get_or-take}
use Rattle.decoder.specs.Rows.{dotted_more, dotted_all}
use Rattle.decoder.proofs.kernel.Window.dot.Goals as goal

pub loop-x-preserved : goal.loop-x-preserved
loop-x-preserved c =
    let d = c.args.self.now.d in
    let products = c.products-products.result in
    let l : c.loop-x.x-index < d = omega (arith, length-take d products) in
    rw (get_or-take d products c.loop-x.x-index 0 l)
    (dotted_more c.loop-x.invariant l (omega arith) c.lanes.ensures c.lanes-2.ensures c.products-products.ensures)

pub returns : goal.returns
returns c =
    dotted_all c.loop-x.invariant (omega (arith, length-take c.args.self.now.d c.products-products.result, c.products-products.ensures.size))
