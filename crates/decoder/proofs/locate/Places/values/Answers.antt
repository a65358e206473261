-- `decoder::locate::Places::values` meets its contract. The loop's invariant: the coefficients from l up are
-- summed at each of the points.
use native.Mathlib.Omega.{arith}
use Rattle.decoder.specs.Candidates.{uppers_none, uppers_more, uppers_all}
use Rattle.decoder.proofs.locate.Places.values.Goals as goal

pub loop-l-init : goal.loop-l-init
loop-l-init c = (omega arith, uppers_none _ _ _ _ _ (omega arith))

pub loop-l-preserved : goal.loop-l-preserved
loop-l-preserved c =
    let o = c.loop-l in
    (omega arith, uppers_more _ _ _ _ _ o.l _ _ (omega arith) (omega arith) c.raise-next.ensures o.invariant.1)

pub returns : goal.returns
returns c = uppers_all _ _ _ _ _ c.loop-l.l _ (omega arith) c.loop-l.invariant.1
