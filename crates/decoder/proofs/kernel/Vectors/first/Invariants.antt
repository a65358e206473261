-- `decoder::kernel::Vectors::first` meets its contract: it stops at the first vector alive, or passes them all. The invariant: every vector passed is
-- dead.
use Prim.Native.Nat.{ℕ, ◌<◌}
use Rattle.decoder.specs.Elimination.{Alive}
use Rattle.decoder.proofs.kernel.Vectors.first.Given as goal

abbrev pub invariant-loop-s : goal.invariant-loop-s
invariant-loop-s l = (i : ℕ) → i < l.s → ¬ Alive l.self.alive i
