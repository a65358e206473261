-- `check_receive` meets its contract: the position goes first, then all lengths, then the marks of the memory.
use Rattle.std.proofs.Common.{◌∙◌, ◌<◌, ◌+◌, ℕ, ap, refl, arith}
use Rattle.algebra.specs.Refusal.{need_yes, need_no, first_none}
use Rattle.interleave.specs.Numbers.{answered, passed, first_refused, fails}
use Rattle.cross.specs.Numbers.{cross_error}
use Rattle.cross.specs.Cross.{cycle, receive_refusal}
use Rattle.cross.proofs.receiver.check_receive.Goals as goal
use Rattle.cross.proofs.receiver.check_receive.Goals.{then-word-ne32-via-then-word-ne32, then-word-ne32-via-else-word-ne32+then-message-ne24, then-word-ne32-via-else-word-ne32+else-message-ne24+then-map-ne32}

pub returns-then-frames_of_a_cycle-position : goal.returns-then-frames_of_a_cycle-position
unfolding receive_refusal
returns-then-frames_of_a_cycle-position c = ap (λ (k : ℕ). answered cross_error k tt) (need_no _ 1 _ λ h. omega arith)

pub returns-in_err-check_memories : goal.returns-in_err-check_memories
unfolding receive_refusal
returns-in_err-check_memories c =
    let p : c.args.position < 108 + cycle = omega arith in
    first_refused cross_error _ _ _ _ c.from_residual.ensures.1 c.in_err-check_memories.ensures ∙ ap (λ (k : ℕ). answered cross_error k tt) (need_yes _ _ _ _ p refl)

pub returns-then-word-ne32 : goal.returns-then-word-ne32
unfolding receive_refusal
returns-then-word-ne32 c =
    let p : c.args.position < 108 + cycle = omega arith in
    ap (λ (k : ℕ). answered cross_error k tt) (need_yes _ _ _ 2 p (first_none _ _ 2 (passed cross_error _ _ _ c.in_ok-check_memories.ensures)
    (elim c.then-word-ne32.branch [
      | then-word-ne32-via-then-word-ne32 w ↦ need_no _ _ _ w.if-word-ne32.true
      | then-word-ne32-via-else-word-ne32+then-message-ne24 w ↦ need_yes _ _ _ 2 w.if-word-ne32.false (need_no _ _ _ w.if-message-ne24.true)
      | then-word-ne32-via-else-word-ne32+else-message-ne24+then-map-ne32 w ↦
          need_yes _ _ _ 2 w.if-word-ne32.false (need_yes _ _ _ 2 w.if-message-ne24.false (need_no _ _ _ w.if-map-ne32.true))
    ])))

pub returns-then-not-all_below : goal.returns-then-not-all_below
unfolding receive_refusal
returns-then-not-all_below c =
    let p : c.args.position < 108 + cycle = omega arith in
    ap (λ (k : ℕ). answered cross_error k tt) (need_yes _ _ _ 3 p (first_none _ _ 3 (passed cross_error _ _ _ c.in_ok-check_memories.ensures)
    (need_yes _ _ _ 3 c.if-word-ne32.false (need_yes _ _ _ 3 c.if-message-ne24.false (need_yes _ _ _ 3 c.if-map-ne32.false
    (need_no _ _ _ (fails _ _ c.all_below.ensures c.if-not-all_below.true)))))))

pub returns : goal.returns
unfolding receive_refusal
returns c =
    let p : c.args.position < 108 + cycle = omega arith in
    ap (λ (k : ℕ). answered cross_error k tt) (need_yes _ _ _ 0 p (first_none _ _ 0 (passed cross_error _ _ _ c.in_ok-check_memories.ensures)
    (need_yes _ _ _ 0 c.if-word-ne32.false (need_yes _ _ _ 0 c.if-message-ne24.false (need_yes _ _ _ 0 c.if-map-ne32.false
    (need_yes _ _ _ 0 (rw (← c.if-not-all_below.ensures) tt) refl))))))
