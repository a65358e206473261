-- `decoder::peel::Listing::distance` meets its contract. The loop's invariant (`Nearing`): what is multiplied, times the differences that are left, is the
-- distance.
use Rattle.std.proofs.Common.{◌<◌, ◌∙◌, arith, length-take, get_or-take}
use Rattle.decoder.specs.Peeling.{nearing_start}
use Rattle.decoder.specs.Listing.{from, far_take, far_skip, far_end}
use Rattle.decoder.proofs.peel.Listing.distance.Goals as goal
use Rattle.decoder.proofs.peel.Listing.distance.Goals.{then-i-p, else-i-p}

pub loop-place-init : goal.loop-place-init
unfolding from
loop-place-init c = λ flags h. nearing_start

pub loop-place-preserved : goal.loop-place-preserved
loop-place-preserved c =
    let o = c.loop-place in
    let a = c.args.self.now in
    let p = a.places.now in
    let l : o.place-index < a.count = omega (arith, length-take a.count a.flagged) in
    let e = c.from-i.ensures ∙ get_or-take a.count a.flagged o.place-index 0 l in
    elim c.if-i-p.branch [
      | then-i-p w ↦ (λ flags h. rw w.far-is (far_take h l (o.invariant flags h) (rw e at w.if-i-p.true) (p.located.entry _ c.requires) (rw e (p.located.entry _ (a.inside o.place-index l))) w.times-far.ensures))
      | else-i-p w ↦ (λ flags h. rw w.far-is (far_skip h l (o.invariant flags h) (rw e at w.if-i-p.false)))
    ]

pub returns : goal.returns
returns c = λ flags h. far_end h (omega arith) (c.loop-place.invariant flags h)
