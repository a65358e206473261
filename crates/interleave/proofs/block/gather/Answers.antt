-- `gather` meets its contract: refused, it leaves the words alone; else the slots are n rows of J, and transposed.
use Rattle.std.proofs.Common.{refl, ◌∙◌, ◌<◌, arith}
use Rattle.std.proofs.Math.Nat.{mul_comm}
use Rattle.algebra.specs.Refusal.{kept}
use Rattle.interleave.specs.Numbers.{block_error, passed, refused}
use Rattle.interleave.specs.Block.{gathering, block_fine}
use Rattle.interleave.proofs.block.gather.Goals as goal

pub returns-in_err-check_block : goal.returns-in_err-check_block
unfolding gathering
returns-in_err-check_block c =
    let (ne, same) = refused block_error _ _ _ c.from_residual.ensures.1 c.in_err-check_block.ensures in
    record { outcome = rw same (kept _ _ _ ne) }

pub transpose-requires : goal.transpose-requires
transpose-requires c =
    let f = block_fine _ _ _ _ (passed block_error _ _ _ c.in_ok-check_block.ensures) in
    let h : 0 < c.args.n = omega (arith, f.setting.size.0) in
    (h, f.from ∙ mul_comm _ _, f.to)

pub returns : goal.returns
unfolding gathering
returns c = record { outcome = rw (passed block_error _ _ _ c.in_ok-check_block.ensures, c.transpose.ensures) refl }
