-- `put_slots` meets its contract: each slot adds its own number, and the line ends.
use native.Mathlib.Omega.{arith}
use Rattle.reader.specs.Lines.Slots.{slots_begun_within, slots_on_within, slots_done_within}
use Rattle.reader.proofs.lines.put_slots.Goals as goal

pub loop-slot-init : goal.loop-slot-init
loop-slot-init c = slots_begun_within _ _ (omega arith)

pub loop-slot-preserved : goal.loop-slot-preserved
loop-slot-preserved c = slots_on_within _ _ c.loop-slot.invariant c.put_slot.ensures

pub returns : goal.returns
returns c = slots_done_within _ _ c.loop-slot.invariant c.loop-slot-test.false (omega arith) c.put_byte.ensures
