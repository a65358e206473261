-- `decoder::kernel::Vectors::first` meets its contract: it stops at the first vector alive, or passes them all. The invariant: every vector passed is
-- dead.
use native.Mathlib.Omega.{arith}
use Rattle.algebra.specs.Sets.{count_none}
use Rattle.decoder.specs.Elimination.{living}
use Rattle.decoder.proofs.kernel.Vectors.first.Goals as goal

pub returns : goal.returns
returns c = count_none (living c.args.self.now.alive) c.args.d λ i h. c.loop-s.invariant i (omega arith)
