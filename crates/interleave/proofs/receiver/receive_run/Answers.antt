-- `receive_run` meets its contract: refused, all stays; else `Line::run` has made the steps, of the bytes and of the marks.
use Rattle.std.proofs.Common.{refl}
use Rattle.algebra.specs.Refusal.{kept}
use Rattle.interleave.specs.Numbers.{line_error, passed, refused}
use Rattle.interleave.specs.Setting.{receive_fine}
use Rattle.interleave.specs.Promises.{receive_run}
use Rattle.interleave.proofs.receiver.receive_run.Goals as goal

pub returns-in_err-check_run : goal.returns-in_err-check_run
unfolding receive_run
returns-in_err-check_run c =
    let (ne, same) = refused line_error _ _ _ c.from_residual.ensures.1 c.in_err-check_run.ensures in
    record { outcome = rw same (kept _ _ _ ne) }

pub run-position-requires : goal.run-position-requires
run-position-requires c = (receive_fine _ _ _ _ _ (passed line_error _ _ _ c.in_ok-check_run.ensures)).receiver.line

pub run-requires : goal.run-requires
run-requires c =
    let f = (receive_fine _ _ _ _ _ (passed line_error _ _ _ c.in_ok-check_run.ensures)).receiver in
    rw (← f.exact) at f.line

pub returns : goal.returns
unfolding receive_run
returns c = record { outcome = rw (passed line_error _ _ _ c.in_ok-check_run.ensures, ← c.run-position.ensures, ← c.run.ensures) refl }
