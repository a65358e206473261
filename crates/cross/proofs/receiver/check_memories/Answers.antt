-- `check_memories` meets its contract: each length is one need of the definition.
use Rattle.std.proofs.Common.{ℕ, ap, refl}
use Rattle.algebra.specs.Refusal.{need_yes, need_no}
use Rattle.interleave.specs.Numbers.{answered}
use Rattle.cross.specs.Numbers.{cross_error}
use Rattle.cross.specs.Cross.{fresh_refusal}
use Rattle.cross.proofs.receiver.check_memories.Goals as goal
use Rattle.cross.proofs.receiver.check_memories.Goals.{then-memory-ne1512-via-then-memory-ne1512, then-memory-ne1512-via-else-memory-ne1512+then-held-ne1512}

pub returns-then-memory-ne1512 : goal.returns-then-memory-ne1512
unfolding fresh_refusal
returns-then-memory-ne1512 c =
    ap (λ (k : ℕ). answered cross_error k tt)
    (elim c.then-memory-ne1512.branch [
      | then-memory-ne1512-via-then-memory-ne1512 w ↦ need_no _ 2 _ w.if-memory-ne1512.true
      | then-memory-ne1512-via-else-memory-ne1512+then-held-ne1512 w ↦ need_yes _ _ _ 2 w.if-memory-ne1512.false (need_no _ _ _ w.if-held-ne1512.true)
    ])

pub returns : goal.returns
unfolding fresh_refusal
returns c = ap (λ (k : ℕ). answered cross_error k tt) (need_yes _ _ _ 0 c.if-memory-ne1512.false (need_yes _ _ _ 0 c.if-held-ne1512.false refl))
