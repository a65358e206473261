-- `checks::roots::first_root` meets its contract.
use mathlib.Core.Path.{◌≡◌}
use native.Mathlib.Omega.{arith}
use Rattle.algebra.specs.Horner.{pow}
use Rattle.checks.proofs.roots.first_root.Goals as goal

pub returns-then-b-eq0 : goal.returns-then-b-eq0
unfolding pow
returns-then-b-eq0 c = rw c.if-b-eq0.true

pub returns : goal.returns
unfolding pow
returns c =
    let e : c.args.b ≡ 1 = omega arith in
    rw (e, c.double.ensures)
