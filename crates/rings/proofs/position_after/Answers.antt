-- `position_after` meets its contract: below the last position the rest is the sum itself, and else that of the sum less all positions.
use mathlib.Core.Path.{◌≡◌, sym}
use Prim.Native.Nat.{◌+◌, ◌-◌}
use native.Mathlib.Omega.{arith}
use native.Mathlib.Nat.{mod-eq-sub-mod}
use Rattle.rings.proofs.position_after.Goals as goal

pub returns : goal.returns
returns c =
    let a = c.args in
    let e : a.count - (a.positions - a.start) ≡ a.start + a.count - a.positions = omega arith in
    rw e (sym (mod-eq-sub-mod (omega arith)))
