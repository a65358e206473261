-- `check_run` meets its contract: the line and all lengths go first, then the marks of the memory, then the marks handed in.
use Rattle.std.proofs.Common.{ℕ, ap, refl}
use Rattle.algebra.specs.Refusal.{need_yes, need_no, first_none}
use Rattle.interleave.specs.Numbers.{answered, line_error, passed, first_refused, fails}
use Rattle.interleave.specs.Setting.{receive_refusal}
use Rattle.interleave.proofs.receiver.check_run.Goals as goal
use Rattle.interleave.proofs.receiver.check_run.Goals.{then-not-all_below-via-then-not-all_below, then-not-all_below-via-else-not-all_below+then-not-all_below-2}

pub returns-in_err-check_receiver : goal.returns-in_err-check_receiver
unfolding receive_refusal
returns-in_err-check_receiver c =
    first_refused line_error _ _ _ _ c.from_residual.ensures.1 c.in_err-check_receiver.ensures

pub returns-then-marks-many : goal.returns-then-marks-many
unfolding receive_refusal
returns-then-marks-many c =
    ap (λ (k : ℕ). answered line_error k tt) (first_none _ _ 2 (passed line_error _ _ _ c.in_ok-check_receiver.ensures) (need_no _ _ _ c.if-marks-many.true))

pub returns-then-not-all_below : goal.returns-then-not-all_below
unfolding receive_refusal
returns-then-not-all_below c =
    ap (λ (k : ℕ). answered line_error k tt) (first_none _ _ 3 (passed line_error _ _ _ c.in_ok-check_receiver.ensures)
    (need_yes _ _ _ _ c.if-marks-many.false
    (elim c.then-not-all_below.branch [
      | then-not-all_below-via-then-not-all_below w ↦ need_no _ _ _ (fails _ _ c.all_below.ensures w.if-not-all_below.true)
      | then-not-all_below-via-else-not-all_below+then-not-all_below-2 w ↦
          need_yes _ _ _ _ (rw (← w.if-not-all_below.ensures) tt) (need_no _ _ _ (fails _ _ w.all_below-else-not-all_below.ensures w.if-not-all_below-2.true))
    ])))

pub returns : goal.returns
unfolding receive_refusal
returns c =
    ap (λ (k : ℕ). answered line_error k tt) (first_none _ _ 0 (passed line_error _ _ _ c.in_ok-check_receiver.ensures)
    (need_yes _ _ _ 0 c.if-marks-many.false (need_yes _ _ _ 0 (rw (← c.if-not-all_below.ensures) tt) (need_yes _ _ _ 0 (rw (← c.if-not-all_below-2.ensures) tt) refl))))
