-- `decode` meets its contract: a refusal leaves the word and the map, and `in_place` promises the rest.
use mathlib.Core.Path.{sym}
use Rattle.std.proofs.lemmas.Result.{err_from_is_err_and}
use Rattle.word.specs.Refusals.{checked}
use Rattle.word.specs.Met.{decode_checks}
use Rattle.word.proofs.decode.Goals as goal

pub returns-in_err-check_received : goal.returns-in_err-check_received
returns-in_err-check_received c =
    let p = err_from_is_err_and c.from_residual.result c.from_residual.ensures.1 in
    rw (p.1, p.2) (decode_checks _ _ _ _ _ c.in_err-check_received.ensures)

pub look_at-seen-requires : goal.look_at-seen-requires
look_at-seen-requires c = (checked _ _ _ _ (sym c.in_ok-check_received.ensures)).1

pub in_place-requires : goal.in_place-requires
in_place-requires c = (c.look_at-seen.ensures, (checked _ _ _ _ (sym c.in_ok-check_received.ensures)).0)
