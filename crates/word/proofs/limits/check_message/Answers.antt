-- `limits::check_message` meets its contract: each return is the first need that is not met, or, at the end, all are.
use mathlib.Core.Path.{refl, ◌∙◌}
use native.Mathlib.Omega.{arith}
use Rattle.algebra.specs.Refusal.{need_yes, need_no, test_yes, test_no}
use Rattle.word.specs.Setting.{has_room, own_symbols}
use Rattle.word.specs.Answers.{encode_refusal}
use Rattle.word.proofs.limits.check_message.Goals as goal
use Rattle.word.proofs.limits.check_message.Goals.{then-message-s-via-then-message-s, then-message-s-via-else-message-s+then-word-s}

pub returns-then-not-is_allowed : goal.returns-then-not-is_allowed
unfolding encode_refusal
returns-then-not-is_allowed c = need_no _ _ _ (test_no _ _ c.is_allowed.ensures c.if-not-is_allowed.true-raw)

pub overflow_sub-s : goal.overflow_sub-s
overflow_sub-s c = omega (arith, has_room _ (test_yes _ _ c.is_allowed.ensures c.if-not-is_allowed.false-raw))

pub returns-then-message-s : goal.returns-then-message-s
unfolding encode_refusal
returns-then-message-s c =
    need_yes _ _ _ _ (test_yes _ _ c.is_allowed.ensures c.if-not-is_allowed.false-raw) (elim c.then-message-s.branch [
      | then-message-s-via-then-message-s w ↦ need_no _ _ _ w.if-message-s.true
      | then-message-s-via-else-message-s+then-word-s w ↦ need_yes _ _ _ _ w.if-message-s.false (need_no _ _ _ w.if-word-s.true)
    ])

pub returns-then-not-all_below : goal.returns-then-not-all_below
unfolding encode_refusal
returns-then-not-all_below c =
    let ok = test_yes _ _ c.is_allowed.ensures c.if-not-is_allowed.false-raw in
    let small = c.all_below.ensures ∙ own_symbols _ ok _ _ c.symbols_of.ensures in
    need_yes _ _ _ _ ok (need_yes _ _ _ _ c.if-message-s.false (need_yes _ _ _ _ c.if-word-s.false (need_no _ _ _ (test_no _ _ small c.if-not-all_below.true-raw))))

pub returns : goal.returns
unfolding encode_refusal
returns c =
    let ok = test_yes _ _ c.is_allowed.ensures c.if-not-is_allowed.false-raw in
    let small = c.all_below.ensures ∙ own_symbols _ ok _ _ c.symbols_of.ensures in
    need_yes _ _ _ _ ok (need_yes _ _ _ _ c.if-message-s.false (need_yes _ _ _ _ c.if-word-s.false (need_yes _ _ _ _ (test_yes _ _ small c.if-not-all_below.false-raw) refl)))
