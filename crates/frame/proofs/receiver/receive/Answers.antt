-- `receive` meets its contract: a frame that has passed the checks is decoded.
use Rattle.frame.specs.Receiving.{receive_decoded}
use Rattle.frame.proofs.receiver.receive.Goals as goal

pub returns : goal.returns
returns c = receive_decoded _ _ _ _ _ c.in_ok-check_receive.ensures _ _ _ c.receive_checked.ensures
