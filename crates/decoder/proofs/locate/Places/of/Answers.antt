-- `decoder::locate::Places::of` meets its contract. The loop's invariant: the places from `i` on have their locators, and `x` is that of the place before
-- them.
use mathlib.Core.Path.{refl, ◌∙◌}
use Prim.Native.Nat.{◌<◌, ◌≤◌}
use native.Mathlib.Omega.{arith}
use Rattle.decoder.specs.Candidates.{backed_none, backed_more, locator_last, locator_next}
use Rattle.decoder.proofs.locate.Places.of.Goals as goal

pub loop-i-init : goal.loop-i-init
loop-i-init c = (omega arith, locator_last _ _, backed_none _ _ _ refl)

pub loop-i-preserved : goal.loop-i-preserved
loop-i-preserved c =
    let o = c.loop-i in
    let a = c.args in
    let (u, v) : (0 < o.i) × (a.n ≤ 255) = (omega arith, omega arith) in (
      omega arith,
      c.double-x.ensures ∙ locator_next a.m a.n o.i o.x u o.invariant.0 o.invariant.1,
      backed_more a.m a.n o.i o.locators o.x u o.invariant.0 v o.invariant.1 o.invariant.2,
    )
