-- `decoder::peel::Listing::distance` meets its contract. The loop's invariant (`Nearing`): what is multiplied, times the differences that are left, is the
-- distance.
use mathlib.Core.List.{List}
use Prim.Native.Nat.{ℕ}
use Rattle.decoder.specs.Peeling.{Nearing}
use Rattle.decoder.specs.Listing.{Listed, from}
use Rattle.decoder.proofs.peel.Listing.distance.Given as goal

abbrev pub invariant-loop-place : goal.invariant-loop-place
invariant-loop-place l =
    let a = l.self in
    let p = a.places.now in
    (flags : List ℕ) → Listed p.n flags a.count a.flagged → Nearing p.m p.n flags l.p l.start (from a.flagged l.place-index) l.far
