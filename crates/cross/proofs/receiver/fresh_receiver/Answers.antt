-- `fresh_receiver` meets its contract: refused, it leaves both memories alone; else they have 1512 bytes each, and are filled with 0 and with 1.
use Rattle.std.proofs.Common.{refl, ap, ◌∙◌, ℕ, replicate}
use Rattle.interleave.specs.Numbers.{passed}
use Rattle.cross.specs.Numbers.{cross_error}
use Rattle.cross.specs.Checks.{fresh_fine}
use Rattle.cross.proofs.receiver.fresh_receiver.Goals as goal

pub returns : goal.returns
returns c =
    let e = passed cross_error _ _ _ c.in_ok-check_memories.ensures in
    let (f, g) = fresh_fine _ _ e in
    let zeros = c.fill.ensures.after (λ y e. e) ∙ ap (λ (z : ℕ). replicate z 0) f in
    let ones = c.fill-2.ensures.after (λ y e. e) ∙ ap (λ (z : ℕ). replicate z 1) g in
    record { outcome = rw (e, zeros, ones) refl }
