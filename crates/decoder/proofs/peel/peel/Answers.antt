-- `decoder::peel::peel` meets its contract. The loop's invariant: the first j sums are those without the place (`Filled`).
use native.Mathlib.Omega.{arith}
use Rattle.decoder.specs.Peeling.{peel_more}
use Rattle.decoder.proofs.peel.peel.Goals as goal

pub loop-j-preserved : goal.loop-j-preserved
loop-j-preserved c = peel_more _ _ _ _ (omega arith) c.products-products.ensures c.loop-j.invariant
