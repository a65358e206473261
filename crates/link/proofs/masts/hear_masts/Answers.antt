-- `hear_masts` meets its contract: the answer is what receiving both promises, and the record is what noting it promises.
use mathlib.Core.Path.{ap}
use Rattle.frame.specs.declared.setting.Received.{Received}
use Rattle.link.specs.Promises.{masts_received_and_noted}
use Rattle.link.proofs.masts.hear_masts.Goals as goal

pub returns-clause-heard : goal.returns-clause-heard
returns-clause-heard c =
    masts_received_and_noted c.receive_masts-answer.ensures.received c.masts_number.ensures (ap (λ (r : Received). r.sequence) c.chosen_of.ensures) c.note-next.ensures
