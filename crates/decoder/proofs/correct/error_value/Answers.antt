-- `decoder::correct::error_value` meets its contract: it is the quotient of what the listing's peeling leaves by the distance, with the inverse of the
-- latter.
use native.Mathlib.Omega.{arith}
use lib.ListN.{get_or}
use Rattle.decoder.specs.Corrections.{error_at}
use Rattle.decoder.proofs.correct.error_value.Goals as goal

pub returns : goal.returns
returns c = λ flags h.
    error_at (get_or c.args.listing.now.places.now.locators c.args.p 0) _ _ _ _ c.weight.ensures (c.args.listing.now.places.now.located.entry _ c.requires.0) (c.distance-far.ensures flags h)
    (λ few. c.peel-rest.ensures flags h 0 (omega arith)) c.inverse_at.ensures.1 c.times.ensures
