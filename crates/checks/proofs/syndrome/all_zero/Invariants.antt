-- `checks::syndrome::all_zero` meets its contract. The loop's invariant: the values before `j` are zero.
use mathlib.Core.Path.{◌≡◌}
use Prim.Native.Nat.{ℕ, ◌%◌, ◌^◌, ◌<◌}
use Rattle.algebra.specs.Tests.{at}
use Rattle.field.specs.Elements.{wide}
use Rattle.checks.proofs.syndrome.all_zero.Given as goal

abbrev pub invariant-loop-j : goal.invariant-loop-j
invariant-loop-j l = (k : ℕ) → k < l.j → at l.sums k % 2 ^ wide l.m ≡ 0
