-- `check_send` meets its contract: the position goes first, then all lengths.
use Rattle.std.proofs.Common.{◌<◌, ℕ, ap, refl, arith}
use Rattle.algebra.specs.Refusal.{need_yes, need_no}
use Rattle.interleave.specs.Numbers.{answered}
use Rattle.cross.specs.Numbers.{cross_error}
use Rattle.cross.specs.Cross.{cycle, send_refusal}
use Rattle.cross.proofs.sender.check_send.Goals as goal
use Rattle.cross.proofs.sender.check_send.Goals.{then-memory-ne1512-via-then-memory-ne1512, then-memory-ne1512-via-else-memory-ne1512+then-message-ne24, then-memory-ne1512-via-else-memory-ne1512+else-message-ne24+then-word-ne32}

pub returns-then-frames_of_a_cycle-position : goal.returns-then-frames_of_a_cycle-position
unfolding send_refusal
returns-then-frames_of_a_cycle-position c = ap (λ (k : ℕ). answered cross_error k tt) (need_no _ 1 _ λ h. omega arith)

pub returns-then-memory-ne1512 : goal.returns-then-memory-ne1512
unfolding send_refusal
returns-then-memory-ne1512 c =
    let p : c.args.position < cycle = omega arith in
    ap (λ (k : ℕ). answered cross_error k tt) (need_yes _ _ _ 2 p
    (elim c.then-memory-ne1512.branch [
      | then-memory-ne1512-via-then-memory-ne1512 w ↦ need_no _ _ _ w.if-memory-ne1512.true
      | then-memory-ne1512-via-else-memory-ne1512+then-message-ne24 w ↦ need_yes _ _ _ 2 w.if-memory-ne1512.false (need_no _ _ _ w.if-message-ne24.true)
      | then-memory-ne1512-via-else-memory-ne1512+else-message-ne24+then-word-ne32 w ↦
          need_yes _ _ _ 2 w.if-memory-ne1512.false (need_yes _ _ _ 2 w.if-message-ne24.false (need_no _ _ _ w.if-word-ne32.true))
    ]))

pub returns : goal.returns
unfolding send_refusal
returns c =
    let p : c.args.position < cycle = omega arith in
    ap (λ (k : ℕ). answered cross_error k tt)
    (need_yes _ _ _ 0 p (need_yes _ _ _ 0 c.if-memory-ne1512.false (need_yes _ _ _ 0 c.if-message-ne24.false (need_yes _ _ _ 0 c.if-word-ne32.false refl))))
