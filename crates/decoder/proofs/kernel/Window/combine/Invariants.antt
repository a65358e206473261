-- `decoder::kernel::Window::combine` meets its contract: each number of the row is the sum of a product of each row, which were made before any was
-- written. The invariant: the first l numbers of the row are made, and all else is as it was.
use Rattle.decoder.specs.Rows.{Combined}
use Rattle.decoder.proofs.kernel.Window.combine.Given as goal

abbrev pub invariant-loop-l : goal.invariant-loop-l
invariant-loop-l l = Combined l.self.m l.b l.c l.l l.x l.y l.initial.rows l.rows
