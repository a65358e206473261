-- `sum` is 2e + f of the words before this one, each at most 3 · 65535.
use mathlib.Core.Path.{◌≡◌}
use Prim.Native.Nat.{◌*◌, ◌≤◌}
use Rattle.algebra.specs.Tests.{total}
use Rattle.link.specs.Masts.{damage_at}
use Rattle.link.proofs.choice.damage_in.Given as goal

abbrev pub invariant-loop-found : goal.invariant-loop-found
invariant-loop-found l = (l.sum ≤ 196605 * l.found-index) × (l.sum ≡ total l.found-index (damage_at l.fn.figures))
