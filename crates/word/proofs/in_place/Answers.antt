-- `in_place` meets its contract: the map is cleared first; a clean word is its own correction, and else `answer` says what the paper says, and an
-- accepted word is copied over the received one.
use mathlib.Core.Path.{◌∙◌}
use Rattle.std.proofs.lemmas.Result.{err_from_is_err_and}
use Rattle.word.specs.Map.Laws.{changes_self, cleared}
use Rattle.word.specs.Met.{decode_found, decode_lost}
use Rattle.word.proofs.in_place.Goals as goal

pub returns-in-Lost : goal.returns-in-Lost
returns-in-Lost c =
    let pre = c.requires in
    decode_lost _ _ _ _ pre.1 pre.0.fine _ (rw c.in-Lost.is at pre.0.told) (cleared _ c.args.map.now c.args.word.now _ c.fill.ensures pre.1 pre.0.fine.size)

pub returns-in-Clean : goal.returns-in-Clean
returns-in-Clean c =
    let pre = c.requires in
    let told = rw c.in-Clean.is at pre.0.told in
    decode_found _ _ _ _ pre.1 pre.0.fine _ _ _ told.0 told.1 (cleared _ c.args.map.now c.args.word.now _ c.fill.ensures pre.1 pre.0.fine.size ∙ changes_self _)

pub returns-in_err-figures-in-Damaged : goal.returns-in_err-figures-in-Damaged
returns-in_err-figures-in-Damaged c =
    let pre = c.requires in
    let no = c.answer.ensures.refused _ c.in_err-figures-in-Damaged.was in
    let p = err_from_is_err_and c.from_residual.result c.from_residual.ensures.1 in
    rw (p.1, p.2, no.0) (decode_lost _ _ _ _ pre.1 pre.0.fine _ no.1 (no.2 ∙ cleared _ c.args.map.now c.args.word.now _ c.fill.ensures pre.1 pre.0.fine.size))

pub returns-in_ok-figures-in-Damaged : goal.returns-in_ok-figures-in-Damaged
returns-in_ok-figures-in-Damaged c =
    let pre = c.requires in
    let yes = c.answer.ensures.done _ c.in_ok-figures-in-Damaged.was in
    rw (c.copy.ensures, pre.0.fine.size) (decode_found _ _ _ _ pre.1 pre.0.fine _ _ _ yes.1 yes.0 yes.2)
