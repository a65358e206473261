-- `Line::check_receiver` meets its contract: the line's refusal goes first, then the length of the marks.
use Rattle.std.proofs.Common.{ℕ, ap, refl}
use Rattle.algebra.specs.Refusal.{need_yes, need_no, first_none}
use Rattle.interleave.specs.Numbers.{answered, line_error, passed, first_refused}
use Rattle.interleave.specs.Setting.{receiver_refusal}
use Rattle.interleave.proofs.line.Line.check_receiver.Goals as goal

pub returns-in_err-check : goal.returns-in_err-check
unfolding receiver_refusal
returns-in_err-check c =
    first_refused line_error _ _ _ _ c.from_residual.ensures.1 c.in_err-check.ensures

pub returns-then-marks-length : goal.returns-then-marks-length
unfolding receiver_refusal
returns-then-marks-length c =
    ap (λ (k : ℕ). answered line_error k tt) (first_none _ _ 2 (passed line_error _ _ _ c.in_ok-check.ensures) (need_no _ _ _ c.if-marks-length.true))

pub returns : goal.returns
unfolding receiver_refusal
returns c =
    ap (λ (k : ℕ). answered line_error k tt) (first_none _ _ 0 (passed line_error _ _ _ c.in_ok-check.ensures) (need_yes _ _ _ 0 c.if-marks-length.false refl))
