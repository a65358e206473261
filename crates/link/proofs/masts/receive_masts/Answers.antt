-- `receive_masts` meets its contract: each copy is what receiving promises, and the answer is chosen of these two.
use Rattle.link.specs.Promises.{each_received}
use Rattle.link.proofs.masts.receive_masts.Goals as goal

pub returns-clause-received : goal.returns-clause-received
returns-clause-received c = each_received c.receive-one.ensures c.receive-other.ensures c.choose.ensures
