-- `answer` meets its contract: the front of the work space is what `correct_word` worked on, and its changes are the map.
use mathlib.Core.Path.{sym}
use lib.Seq.{length-take-le}
use native.Mathlib.Omega.{arith}
use lib.ListN.{length-take, length-append, length-drop}
use Rattle.word.specs.Setting.{limits, at_most}
use Rattle.word.specs.Correcting.{corrects_front, answered_found}
use Rattle.word.proofs.answer.Goals as goal

pub slice_bounds-correct_word-end-2 : goal.slice_bounds-correct_word-end-2
slice_bounds-correct_word-end-2 c =
    let pre = c.requires in
    sym (length-take-le _ _ (omega (arith, pre.1, at_most _ (limits _ pre.0.checked.setting))))

pub correct_word-requires : goal.correct_word-requires
correct_word-requires c =
    let pre = c.requires in
    (pre.0, rw length-take (omega (arith, pre.1, at_most _ (limits _ pre.0.checked.setting))))

pub returns : goal.returns
returns c =
    let pre = c.requires in
    let found = (corrects_front _ _ _ _ _ _ c.correct_word.ensures).found _ c.in_ok-figures.ensures.ok_part in
    answered_found _ _ _ _ _ (simp (length-append, length-drop) (omega (arith, c.correct_word.ensures.size, pre.1, at_most _ (limits _ pre.0.checked.setting)))) _ _
    found.0 found.1 pre.0.checked.size c.note_changes.ensures
