-- `correct_word` meets its contract: the power sums of what is left over are the word's own, and `correct_errors` promises the rest.
use mathlib.Core.Path.{sym}
use native.Mathlib.Omega.{arith}
use lib.Seq.{length-take-le}
use Rattle.word.specs.Setting.{limits}
use Rattle.word.specs.Correcting.{copied, summed}
use Rattle.word.proofs.correct.correct_word.Goals as goal

pub slice_bounds-syndromes-end : goal.slice_bounds-syndromes-end
slice_bounds-syndromes-end c = sym (length-take-le _ _ (omega (arith, (limits _ c.requires.0.checked.setting).high)))

pub correct_errors-requires : goal.correct_errors-requires
correct_errors-requires c =
    let k = c.requires.0 in (
      summed _ _ _ _ _ _ k c.syndromes-sums.ensures,
      copied c.args.out.now c.args.received.now _ _ c.requires.1 k.checked.size c.copy.ensures,
    )
