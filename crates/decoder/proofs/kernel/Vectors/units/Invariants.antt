-- `decoder::kernel::Vectors::units` meets its contract: each turn sets one entry of the diagonal. The invariant: the first s rows have their 1, and
-- nothing behind the diagonal is set.
use Rattle.decoder.specs.Elimination.{Units}
use Rattle.decoder.proofs.kernel.Vectors.units.Given as goal

abbrev pub invariant-loop-s : goal.invariant-loop-s
invariant-loop-s l = Units l.s l.rows
