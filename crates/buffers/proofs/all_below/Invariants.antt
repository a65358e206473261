-- `all_below` meets its contract. The invariant: `most` is the largest of the bytes before, so it is below q where all bytes are.
use Rattle.std.specs.Prelude.{List, ℕ, ◌≤◌, ◌<◌, T}
use Rattle.algebra.specs.Tests.{at, below}
use Rattle.buffers.proofs.all_below.Given as goal

pub record Largest (q : ℕ) (s : List ℕ) (i most : ℕ) : Type 0 where
  pub before : (j : ℕ) → j < i → at s j ≤ most
  pub fits : T (below q s) → most < q

abbrev pub invariant-loop-x : goal.invariant-loop-x
invariant-loop-x l = Largest l.q l.s l.x-index l.most
