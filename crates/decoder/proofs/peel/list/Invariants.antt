-- `decoder::peel::list` meets its contract. The loop's invariant (`Listed`): the flagged places before i are listed.
use mathlib.Core.Path.{◌≡◌}
use Prim.Native.Nat.{◌≤◌}
use lib.ListN.{length}
use Rattle.decoder.specs.Listing.{Listed}
use Rattle.decoder.proofs.peel.list.Given as goal

abbrev pub invariant-loop-i : goal.invariant-loop-i
invariant-loop-i l = (l.count ≤ l.i) × (length l.places ≡ 255) × Listed l.i l.flags l.count l.places
