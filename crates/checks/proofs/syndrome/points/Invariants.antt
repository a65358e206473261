-- `checks::syndrome::points` meets its contract. The loop's invariant: the roots before `j` are laid down, and `x` is the root `j`.
use mathlib.Core.Path.{◌≡◌}
use Rattle.algebra.specs.Lists.{Filled}
use Rattle.checks.specs.Roots.{root}
use Rattle.checks.proofs.syndrome.points.Given as goal

abbrev pub invariant-loop-place : goal.invariant-loop-place
invariant-loop-place l = (l.x ≡ root l.m l.b l.place-index) × Filled 16 (root l.m l.b) l.place-index l.place-items
