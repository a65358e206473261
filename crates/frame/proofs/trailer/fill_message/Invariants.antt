-- The loop's invariant: the first i bytes of the message are the area's from `start` on.
use lib.ListN.{length}
use Rattle.algebra.specs.Lists.{Copying}
use Rattle.frame.specs.Frame.{area_byte, area_sent}
use Rattle.frame.proofs.trailer.fill_message.Given as goal

abbrev pub invariant-loop-i : goal.invariant-loop-i
invariant-loop-i l = Copying (length l.initial.message) (area_byte (area_sent l.size l.payload l.sequence) l.start) l.i l.message
