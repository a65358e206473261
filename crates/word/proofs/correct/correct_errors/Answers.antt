-- `correct_errors` meets its contract: each return is one law of `Corrects`, from what the steps before it promise.
use mathlib.Core.Path.{sym, ◌∙◌}
use native.Mathlib.Omega.{arith}
use borrow.Author.Tests.{not-true, not-false}
use Rattle.word.specs.Correcting.{lost_left, lost_far, found_corrected}
use Rattle.word.proofs.correct.correct_errors.Goals as goal

pub returns-then-not-all_zero : goal.returns-then-not-all_zero
returns-then-not-all_zero c =
    let k = c.requires.0 in
    lost_left _ _ _ k.checked _ k.counted k.few _ k.measured _ _ (rw c.requires.1 at c.correct_places-rest.ensures)
    (sym c.all_zero.ensures ∙ not-true _ c.if-not-all_zero.true-raw)

pub returns-then-s-e : goal.returns-then-s-e
returns-then-s-e c =
    let k = c.requires.0 in
    lost_far _ _ _ k.checked _ k.counted k.few _ k.measured _ _ (rw c.requires.1 at c.correct_places-rest.ensures) _
    c.count_errors-e.ensures.0 c.if-s-e.true

pub returns : goal.returns
returns c =
    let k = c.requires.0 in
    found_corrected _ _ _ k.checked _ k.counted k.few _ k.measured _ _ (rw c.requires.1 at c.correct_places-rest.ensures) _
    c.count_errors-e.ensures.0 (omega arith) (sym c.all_zero.ensures ∙ not-false _ c.if-not-all_zero.false-raw) _ c.count_bits.ensures.0 _ c.figures.ensures
