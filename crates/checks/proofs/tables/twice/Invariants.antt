-- `checks::tables::twice` meets its contract. The invariant: the first v rows behind have the sum.
use Prim.Native.Nat.{◌-◌, ◌≤◌}
use Rattle.checks.specs.Digits.{Twicing}
use Rattle.checks.proofs.tables.twice.Given as goal

abbrev pub invariant-loop-v : goal.invariant-loop-v
invariant-loop-v l = (l.v ≤ l.s) × Twicing l.initial.table l.from l.s l.x l.v l.table

abbrev pub decreases-loop-v : goal.decreases-loop-v
decreases-loop-v l = l.s - l.v
