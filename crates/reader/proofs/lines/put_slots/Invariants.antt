-- The numbers of the changed slots before this one are written, of at most five bytes a slot.
use Prim.Native.Nat.{◌*◌}
use Rattle.text.specs.Page.{WritesWithin}
use Rattle.reader.specs.Lines.{changed_below, spaced}
use Rattle.reader.proofs.lines.put_slots.Given as goal

abbrev pub invariant-loop-slot : goal.invariant-loop-slot
invariant-loop-slot l = WritesWithin (5 * l.slot) (spaced (changed_below l.slot l.map)) l.initial.page l.page
