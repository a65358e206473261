-- `fresh_receiver` meets its contract: refused, it leaves both memories alone; else they have their exact length, and are filled with 0 and with 1.
use Rattle.std.proofs.Common.{refl}
use Rattle.algebra.specs.Refusal.{kept}
use Rattle.interleave.specs.Numbers.{line_error, passed, refused}
use Rattle.interleave.specs.Setting.{receiver_fine}
use Rattle.interleave.specs.Promises.{fresh_receiver}
use Rattle.interleave.proofs.receiver.fresh_receiver.Goals as goal

pub returns-in_err-check_receiver : goal.returns-in_err-check_receiver
unfolding fresh_receiver
returns-in_err-check_receiver c =
    let e = rw c.fresh-line.ensures at c.in_err-check_receiver.ensures in
    let (ne, same) = refused line_error _ _ _ c.from_residual.ensures.1 e in
    record { outcome = rw same (kept _ _ _ ne) }

pub returns : goal.returns
unfolding fresh_receiver
returns c =
    let e = passed line_error _ _ _ (rw c.fresh-line.ensures at c.in_ok-check_receiver.ensures) in
    let (f, same) = receiver_fine _ _ _ e in
    record { outcome = rw (c.fresh-line.ensures, e, c.fill.ensures.after (λ y h. h), c.fill-2.ensures.after (λ y h. h), same, f.exact) refl }
