-- `limits::check_word` meets its contract: each return is the first need that is not met, or, at the end, all are.
use mathlib.Core.Path.{refl, ◌∙◌}
use Rattle.algebra.specs.Refusal.{need_yes, need_no, test_yes, test_no}
use Rattle.word.specs.Setting.{own_symbols}
use Rattle.word.specs.Clean.{clean_refusal}
use Rattle.word.proofs.limits.check_word.Goals as goal

pub returns-then-not-is_allowed : goal.returns-then-not-is_allowed
unfolding clean_refusal
returns-then-not-is_allowed c = need_no _ _ _ (test_no _ _ c.is_allowed.ensures c.if-not-is_allowed.true-raw)

pub returns-then-word-s : goal.returns-then-word-s
unfolding clean_refusal
returns-then-word-s c =
    need_yes _ _ _ _ (test_yes _ _ c.is_allowed.ensures c.if-not-is_allowed.false-raw) (need_no _ _ _ c.if-word-s.true)

pub returns-then-not-all_below : goal.returns-then-not-all_below
unfolding clean_refusal
returns-then-not-all_below c =
    let ok = test_yes _ _ c.is_allowed.ensures c.if-not-is_allowed.false-raw in
    let small = c.all_below.ensures ∙ own_symbols _ ok _ _ c.symbols_of.ensures in
    need_yes _ _ _ _ ok (need_yes _ _ _ _ c.if-word-s.false (need_no _ _ _ (test_no _ _ small c.if-not-all_below.true-raw)))

pub returns : goal.returns
unfolding clean_refusal
returns c =
    let ok = test_yes _ _ c.is_allowed.ensures c.if-not-is_allowed.false-raw in
    let small = c.all_below.ensures ∙ own_symbols _ ok _ _ c.symbols_of.ensures in
    need_yes _ _ _ _ ok (need_yes _ _ _ _ c.if-word-s.false (need_yes _ _ _ _ (test_yes _ _ small c.if-not-all_below.false-raw) refl))
