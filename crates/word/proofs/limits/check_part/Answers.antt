-- `limits::check_part` meets its contract: a part of k symbols leaves the checks of `decode`.
use native.Mathlib.Omega.{arith}
use Rattle.algebra.specs.Refusal.{need_yes, need_no, test_yes, test_no}
use Rattle.word.specs.Setting.{has_room}
use Rattle.word.specs.Answers.{part_refusal}
use Rattle.word.proofs.limits.check_part.Goals as goal

pub returns-then-not-is_allowed : goal.returns-then-not-is_allowed
unfolding part_refusal
returns-then-not-is_allowed c = need_no _ _ _ (test_no _ _ c.is_allowed.ensures c.if-not-is_allowed.true-raw)

pub overflow_sub-s : goal.overflow_sub-s
overflow_sub-s c = omega (arith, has_room _ (test_yes _ _ c.is_allowed.ensures c.if-not-is_allowed.false-raw))

pub returns-then-part-s : goal.returns-then-part-s
unfolding part_refusal
returns-then-part-s c =
    need_yes _ _ _ _ (test_yes _ _ c.is_allowed.ensures c.if-not-is_allowed.false-raw) (need_no _ _ _ c.if-part-s.true)

pub returns : goal.returns
unfolding part_refusal
returns c =
    need_yes _ _ _ _ (test_yes _ _ c.is_allowed.ensures c.if-not-is_allowed.false-raw) (need_yes _ _ _ _ c.if-part-s.false c.check_received.ensures)
