-- The bytes before this one are written, two digits for each.
use lib.ListN.{take}
use Rattle.text.specs.Text.{hexes}
use Rattle.text.specs.Page.{Writes}
use Rattle.text.proofs.Page.put_hexes.Given as goal

abbrev pub invariant-loop-byte : goal.invariant-loop-byte
invariant-loop-byte l = Writes (hexes (take l.byte-index l.bytes)) l.initial.page l.page
