-- `count::count_marks` meets its contract. The loop's invariant: `f` is the sum of the marks before the index, each at most 1.
use mathlib.Core.Path.{refl}
use native.Mathlib.Omega.{arith}
use Rattle.algebra.specs.Tests.{total, total_more, below_at}
use Rattle.word.proofs.count.count_marks.Goals as goal

pub loop-mark-init : goal.loop-mark-init
loop-mark-init c = (omega arith, unfold total in refl)

pub overflow_add-f : goal.overflow_add-f
overflow_add-f c = omega (arith, below_at 2 _ c.requires.1 c.loop-mark.mark-index (omega arith))

pub loop-mark-preserved : goal.loop-mark-preserved
loop-mark-preserved c = (omega (arith, below_at 2 _ c.requires.1 c.loop-mark.mark-index (omega arith)), total_more _ _ _ _ c.loop-mark.invariant.1 refl)
