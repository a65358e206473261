-- `send_run` meets its contract: refused, all stays; else `Line::run` has made the steps.
use Rattle.std.proofs.Common.{refl}
use Rattle.algebra.specs.Refusal.{kept}
use Rattle.interleave.specs.Numbers.{line_error, passed, refused}
use Rattle.interleave.specs.Setting.{line_fine}
use Rattle.interleave.specs.Promises.{send_run}
use Rattle.interleave.proofs.sender.send_run.Goals as goal

pub returns-in_err-check : goal.returns-in_err-check
unfolding send_run
returns-in_err-check c =
    let (ne, same) = refused line_error _ _ _ c.from_residual.ensures.1 c.in_err-check.ensures in
    record { outcome = rw same (kept _ _ _ ne) }

pub run-position-requires : goal.run-position-requires
run-position-requires c = line_fine _ _ (passed line_error _ _ _ c.in_ok-check.ensures)

pub returns : goal.returns
unfolding send_run
returns c = record { outcome = rw (passed line_error _ _ _ c.in_ok-check.ensures, ← c.run-position.ensures) refl }
