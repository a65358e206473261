-- `left::agree` meets its contract. The loop's invariant: the first j check symbols are those that stand behind.
use mathlib.Core.Path.{◌≡◌}
use Prim.Native.Nat.{ℕ, ◌<◌}
use Rattle.algebra.specs.Tests.{at}
use Rattle.checks.specs.Spaced.{behind_at}
use Rattle.checks.proofs.left.agree.Given as goal

abbrev pub invariant-loop-j : goal.invariant-loop-j
invariant-loop-j l = (i : ℕ) → i < l.j → at l.checks i ≡ behind_at l.slots l.step l.first l.k i
