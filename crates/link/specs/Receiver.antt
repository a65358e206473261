-- Document 01, "Receiver's record": what the receiver's whole call answers and leaves, for every input.
-- Assumes nothing.
use Rattle.std.specs.Prelude.{Result, List, ℕ}
use Rattle.frame.specs.Frame.{ReceiveOutcome, receive_outcome, receiving}
use Rattle.record.specs.Record.{noted}
use Rattle.frame.specs.declared.setting.Framing.{Framing}
use Rattle.frame.specs.declared.setting.ReceiveError.{ReceiveError}
use Rattle.frame.specs.declared.setting.Received.{Received}
use Rattle.record.specs.declared.Record.{Record}

-- what hearing a frame answers and leaves: the frame's answer with the area and the map, and the record after it
pub record HearOutcome : Type 0 where
  pub frame : ReceiveOutcome
  pub next : Record

abbrev pub hear_outcome : Result Received ReceiveError → Record → (area map : List ℕ) → HearOutcome
hear_outcome answer next area map = record { frame = receive_outcome answer area map; next = next }

-- the frame is received, and the number and sequence number that it was answered are noted
unfoldable pub hearing : Record → Framing → (slots marks area map : List ℕ) → HearOutcome
hearing before f slots marks area map =
    let o = receiving f slots marks area map in
    record { frame = o; next = noted before o.number o.sequence }
