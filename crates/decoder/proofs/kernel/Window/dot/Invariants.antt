-- `decoder::kernel::Window::dot` meets its contract: it adds up the row's products one by one. The invariant: what is summed, plus the rest of the
-- products, is the whole.
use Rattle.decoder.specs.Rows.{Dotted}
use Rattle.decoder.proofs.kernel.Window.dot.Given as goal

abbrev pub invariant-loop-x : goal.invariant-loop-x
invariant-loop-x l = let w = l.self in Dotted w.m w.d l.rows l.b w.sums.now w.j l.x-index l.sum
