-- `hear` meets its contract: the frame is what receiving promises, and the record is what noting that frame's number and
-- sequence number promises.
use mathlib.Core.Path.{ap}
use Rattle.frame.specs.declared.setting.Received.{Received}
use Rattle.link.specs.Promises.{received_and_noted}
use Rattle.link.proofs.hearing.hear.Goals as goal

pub returns : goal.returns
returns c = received_and_noted c.receive-answer.ensures c.number_of.ensures (ap (λ (r : Received). r.sequence) c.received_of.ensures) c.note-next.ensures
