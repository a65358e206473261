-- `send_step` meets its contract, since a step is a run over one byte.
use Rattle.std.proofs.lemmas.Result.{err_from_is_err_and}
use Rattle.interleave.proofs.Step.{send_stepped}
use Rattle.interleave.proofs.sender.send_step.Goals as goal

pub returns-in_err-later : goal.returns-in_err-later
returns-in_err-later c =
    let p = err_from_is_err_and c.from_residual.result c.from_residual.ensures.1 in
    rw (p.1, p.2) (send_stepped _ _ _ _ _ _ c.in_err-later.ensures)

pub returns : goal.returns
returns c = send_stepped _ _ _ _ _ _ c.in_ok-later.ensures
