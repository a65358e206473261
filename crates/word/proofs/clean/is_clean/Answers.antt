-- `clean::is_clean` meets its contract: a refusal is told, and a word that has passed the checks stands by itself.
use mathlib.Core.Path.{refl, sym}
use Rattle.std.proofs.lemmas.Result.{err_from_is_err_and}
use Rattle.word.specs.Setting.{limits}
use Rattle.word.specs.Refusals.{word_checked}
use Rattle.word.specs.Met.{clean_checks, clean_told}
use Rattle.word.specs.Looking.{stands_alone, told_alone}
use Rattle.word.proofs.clean.is_clean.Goals as goal

pub returns-in_err-check_word : goal.returns-in_err-check_word
returns-in_err-check_word c =
    let p = err_from_is_err_and c.from_residual.result c.from_residual.ensures.1 in
    rw (p.1, p.2) (clean_checks _ _ _ c.in_err-check_word.ensures)

pub prepare-requires : goal.prepare-requires
prepare-requires c =
    let limit = limits _ (word_checked _ _ (sym c.in_ok-check_word.ensures)).setting in
    (limit.start, limit.high)

pub is_clean_by-requires : goal.is_clean_by-requires
is_clean_by-requires c = (stands_alone _ _ (word_checked _ _ (sym c.in_ok-check_word.ensures)), c.prepare.ensures)

pub returns : goal.returns
returns c =
    let given = word_checked _ _ (sym c.in_ok-check_word.ensures) in
    clean_told _ _ given _ refl (told_alone _ _ given _ c.is_clean_by.ensures)
