-- `decoder::peel::Listing::peel` meets its contract: it peels the places in the order in which the theory does. The loop's invariant (`Peeling`): to peel
-- the places that are left, from a sequence that the sums agree with as far as they count, is to peel all.
use Rattle.std.proofs.Common.{◌<◌, ◌∙◌, arith, length-take, get_or-take}
use Rattle.decoder.specs.Peeling.{peeling_start}
use Rattle.decoder.specs.Listing.{from, peeled_take, peeled_skip, peeled_end}
use Rattle.decoder.proofs.peel.Listing.peel.Goals as goal
use Rattle.decoder.proofs.peel.Listing.peel.Goals.{then-i-skip, else-i-skip}

pub loop-place-init : goal.loop-place-init
unfolding from
loop-place-init c = λ flags h. peeling_start

pub loop-place-preserved : goal.loop-place-preserved
loop-place-preserved c =
    let o = c.loop-place in
    let a = c.args.self.now in
    let p = a.places.now in
    let l : o.place-index < a.count = omega (arith, length-take a.count a.flagged) in
    let e = c.from-i.ensures ∙ get_or-take a.count a.flagged o.place-index 0 l in
    elim c.if-i-skip.branch [
      | then-i-skip w ↦ (λ flags h. rw w.rest-is (peeled_take h l (o.invariant flags h) (rw e at w.if-i-skip.true) (rw e (p.located.entry _ (a.inside o.place-index l))) w.peel-peeled.ensures))
      | else-i-skip w ↦ (λ flags h. rw w.rest-is (peeled_skip h l (o.invariant flags h) (rw e at w.if-i-skip.false)))
    ]

pub returns : goal.returns
returns c = λ flags h. peeled_end h (omega arith) (c.loop-place.invariant flags h)
