-- `limits::check_received` meets its contract: each return is the first need that is not met, or, at the end, all are.
use mathlib.Core.Path.{refl, ◌∙◌}
use Rattle.algebra.specs.Refusal.{need_yes, need_no, test_yes, test_no}
use Rattle.word.specs.Setting.{own_symbols}
use Rattle.word.specs.Answers.{decode_refusal}
use Rattle.word.proofs.limits.check_received.Goals as goal
use Rattle.word.proofs.limits.check_received.Goals.{then-received-s-via-then-received-s, then-received-s-via-else-received-s+then-marks-s, then-received-s-via-else-received-s+else-marks-s+then-map-s}
use Rattle.word.proofs.limits.check_received.Goals.{then-not-all_below-via-then-not-all_below, then-not-all_below-via-else-not-all_below+then-not-all_below-2}

pub returns-then-not-is_allowed : goal.returns-then-not-is_allowed
unfolding decode_refusal
returns-then-not-is_allowed c = need_no _ _ _ (test_no _ _ c.is_allowed.ensures c.if-not-is_allowed.true-raw)

pub returns-then-received-s : goal.returns-then-received-s
unfolding decode_refusal
returns-then-received-s c =
    need_yes _ _ _ _ (test_yes _ _ c.is_allowed.ensures c.if-not-is_allowed.false-raw) (elim c.then-received-s.branch [
      | then-received-s-via-then-received-s w ↦ need_no _ _ _ w.if-received-s.true
      | then-received-s-via-else-received-s+then-marks-s w ↦ need_yes _ _ _ _ w.if-received-s.false (need_no _ _ _ w.if-marks-s.true)
      | then-received-s-via-else-received-s+else-marks-s+then-map-s w ↦
          need_yes _ _ _ _ w.if-received-s.false (need_yes _ _ _ _ w.if-marks-s.false (need_no _ _ _ w.if-map-s.true))
    ])

pub returns-then-not-all_below : goal.returns-then-not-all_below
unfolding decode_refusal
returns-then-not-all_below c =
    let ok = test_yes _ _ c.is_allowed.ensures c.if-not-is_allowed.false-raw in
    let small = c.all_below.ensures ∙ own_symbols _ ok _ _ c.symbols_of.ensures in
    need_yes _ _ _ _ ok (need_yes _ _ _ _ c.if-received-s.false (need_yes _ _ _ _ c.if-marks-s.false (need_yes _ _ _ _ c.if-map-s.false (elim c.then-not-all_below.branch [
      | then-not-all_below-via-then-not-all_below w ↦ need_no _ _ _ (test_no _ _ small w.if-not-all_below.true-raw)
      | then-not-all_below-via-else-not-all_below+then-not-all_below-2 w ↦
          need_yes _ _ _ _ (test_yes _ _ small w.if-not-all_below.false-raw) (need_no _ _ _ (test_no _ _ w.all_below-else-not-all_below.ensures w.if-not-all_below-2.true-raw))
    ]))))

pub returns : goal.returns
unfolding decode_refusal
returns c =
    let ok = test_yes _ _ c.is_allowed.ensures c.if-not-is_allowed.false-raw in
    let small = test_yes _ _ (c.all_below.ensures ∙ own_symbols _ ok _ _ c.symbols_of.ensures) c.if-not-all_below.false-raw in
    need_yes _ _ _ _ ok (need_yes _ _ _ _ c.if-received-s.false (need_yes _ _ _ _ c.if-marks-s.false
    (need_yes _ _ _ _ c.if-map-s.false (need_yes _ _ _ _ small (need_yes _ _ _ _ (test_yes _ _ c.all_below-else-not-all_below.ensures c.if-not-all_below-2.false-raw) refl)))))
