-- `decoder::peel::Listing::peel` meets its contract: it peels the places in the order in which the theory does. The loop's invariant (`Peeling`): to peel
-- the places that are left, from a sequence that the sums agree with as far as they count, is to peel all.
use mathlib.Core.List.{List}
use Prim.Native.Nat.{ℕ}
use Rattle.decoder.specs.Peeling.{Peeling}
use Rattle.decoder.specs.Listing.{Listed, from}
use Rattle.decoder.proofs.peel.Listing.peel.Given as goal

abbrev pub invariant-loop-place : goal.invariant-loop-place
invariant-loop-place l =
    let a = l.self in
    let p = a.places.now in
    (flags : List ℕ) → Listed p.n flags a.count a.flagged → Peeling p.m p.n flags l.skip l.initial.rest (from a.flagged l.place-index) l.rest
