-- `fresh_sender` meets its contract: refused, it leaves the memory alone; else the memory has its exact length and is filled with zeros.
use Rattle.std.proofs.Common.{refl}
use Rattle.algebra.specs.Refusal.{kept}
use Rattle.interleave.specs.Numbers.{line_error, passed, refused}
use Rattle.interleave.specs.Setting.{line_fine}
use Rattle.interleave.specs.Promises.{fresh_sender}
use Rattle.interleave.proofs.sender.fresh_sender.Goals as goal

pub returns-in_err-check : goal.returns-in_err-check
unfolding fresh_sender
returns-in_err-check c =
    let e = rw c.fresh-line.ensures at c.in_err-check.ensures in
    let (ne, same) = refused line_error _ _ _ c.from_residual.ensures.1 e in
    record { outcome = rw same (kept _ _ _ ne) }

pub returns : goal.returns
unfolding fresh_sender
returns c =
    let e = passed line_error _ _ _ (rw c.fresh-line.ensures at c.in_ok-check.ensures) in
    record { outcome = rw (c.fresh-line.ensures, e, c.fill.ensures.after (λ y h. h), (line_fine _ _ e).exact) refl }
