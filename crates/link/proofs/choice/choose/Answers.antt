-- `choose` meets its contract: which of the two copies are accepted decides whose answer is handed on.
use Rattle.link.specs.Masts.Laws.{chooses_first, chooses_second, chooses_neither}
use Rattle.link.proofs.choice.choose.Goals as goal

pub returns-in-Ok-Err : goal.returns-in-Ok-Err
returns-in-Ok-Err c = rw (c.in-Ok-Err.is-0, c.in-Ok-Err.is-1) (chooses_first _ _)

pub returns-in-Err-Ok : goal.returns-in-Err-Ok
returns-in-Err-Ok c = rw (c.in-Err-Ok.is-0, c.in-Err-Ok.is-1) (chooses_second _ _)

pub returns-in-Err-Err : goal.returns-in-Err-Err
returns-in-Err-Err c = rw (c.in-Err-Err.is-0, c.in-Err-Err.is-1) (chooses_neither _ _)
