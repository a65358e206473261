-- `spread` meets its contract: refused, it leaves the slots alone; else the words are J rows of n, and transposed.
use Rattle.std.proofs.Common.{refl, ◌∙◌}
use Rattle.std.proofs.Math.Nat.{mul_comm}
use Rattle.algebra.specs.Refusal.{kept}
use Rattle.interleave.specs.Numbers.{block_error, passed, refused}
use Rattle.interleave.specs.Block.{spreading, block_fine}
use Rattle.interleave.proofs.block.spread.Goals as goal

pub returns-in_err-check_block : goal.returns-in_err-check_block
unfolding spreading
returns-in_err-check_block c =
    let (ne, same) = refused block_error _ _ _ c.from_residual.ensures.1 c.in_err-check_block.ensures in
    record { outcome = rw same (kept _ _ _ ne) }

pub transpose-requires : goal.transpose-requires
transpose-requires c =
    let f = block_fine _ _ _ _ (passed block_error _ _ _ c.in_ok-check_block.ensures) in
    (f.setting.depth.0, f.from, f.to ∙ mul_comm _ _)

pub returns : goal.returns
unfolding spreading
returns c = record { outcome = rw (passed block_error _ _ _ c.in_ok-check_block.ensures, c.transpose.ensures) refl }
