-- `check_block` meets its contract: a limit or a length that is broken refuses the block, and the limits bound the product.
use Rattle.std.proofs.Common.{ℕ, ap, refl, arith}
use borrow.Author.Rules.{rules}
use Rattle.algebra.specs.Refusal.{need_yes, need_no}
use Rattle.interleave.specs.Numbers.{answered, block_error}
use Rattle.interleave.specs.Block.{block_refusal}
use Rattle.interleave.proofs.block.check_block.Goals as goal
use Rattle.interleave.proofs.block.check_block.Goals.{then-source-depth-via-then-source-depth, then-source-depth-via-else-source-depth+then-target-depth}

pub returns-then-depth-lt1 : goal.returns-then-depth-lt1
unfolding block_refusal
returns-then-depth-lt1 c = ap (λ (k : ℕ). answered block_error k tt) (need_no _ 1 _ λ s. omega (arith, s.depth.0, s.depth.1, s.size.0, s.size.1))

pub returns-then-source-depth : goal.returns-then-source-depth
unfolding block_refusal
returns-then-source-depth c =
    ap (λ (k : ℕ). answered block_error k tt) (need_yes _ _ _ _ (search rules)
    (elim c.then-source-depth.branch [
      | then-source-depth-via-then-source-depth w ↦ need_no _ _ _ w.if-source-depth.true
      | then-source-depth-via-else-source-depth+then-target-depth w ↦ need_yes _ _ _ _ w.if-source-depth.false (need_no _ _ _ w.if-target-depth.true)
    ]))

pub returns : goal.returns
unfolding block_refusal
returns c = ap (λ (k : ℕ). answered block_error k tt) (need_yes _ _ _ 0 (search rules) (need_yes _ _ _ 0 c.if-source-depth.false (need_yes _ _ _ 0 c.if-target-depth.false refl)))
