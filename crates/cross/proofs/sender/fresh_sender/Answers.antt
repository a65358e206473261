-- `fresh_sender` meets its contract: a memory of another length is left alone, and one of 1512 bytes filled with 0.
use Rattle.std.proofs.Common.{◌≡◌, refl, ap, ◌∙◌, ℕ, length, replicate}
use Rattle.algebra.specs.Refusal.{need_yes, need_no}
use Rattle.cross.specs.Cross.{size_refusal}
use Rattle.cross.proofs.sender.fresh_sender.Goals as goal

pub returns-then-memory-ne1512 : goal.returns-then-memory-ne1512
returns-then-memory-ne1512 c =
    let e : 2 ≡ size_refusal (length c.args.memory.now) = need_no _ _ _ c.if-memory-ne1512.true in
    record { outcome = rw (← e) refl }

pub returns : goal.returns
returns c =
    let h = c.if-memory-ne1512.false in
    let e : 0 ≡ size_refusal (length c.args.memory.now) = need_yes _ _ _ 0 h refl in
    let zeros = c.fill.ensures.after (λ y e. e) ∙ ap (λ (z : ℕ). replicate z 0) h in
    record { outcome = rw (← e, zeros) refl }
