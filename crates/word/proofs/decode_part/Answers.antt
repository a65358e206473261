-- `decode_part` meets its contract: a refusal leaves the part and the map, and `to_part` promises the rest.
use mathlib.Core.Path.{sym}
use Rattle.std.proofs.lemmas.Result.{err_from_is_err_and}
use Rattle.word.specs.Refusals.{part_checked}
use Rattle.word.specs.Met.{part_checks}
use Rattle.word.proofs.decode_part.Goals as goal

pub returns-in_err-check_part : goal.returns-in_err-check_part
returns-in_err-check_part c =
    let p = err_from_is_err_and c.from_residual.result c.from_residual.ensures.1 in
    rw (p.1, p.2) (part_checks _ _ _ _ _ _ c.in_err-check_part.ensures)

pub look_at-seen-requires : goal.look_at-seen-requires
look_at-seen-requires c = (part_checked _ _ _ _ _ (sym c.in_ok-check_part.ensures)).2

pub to_part-requires : goal.to_part-requires
to_part-requires c =
    let checked = part_checked _ _ _ _ _ (sym c.in_ok-check_part.ensures) in
    (c.look_at-seen.ensures, checked.0, checked.1)
