-- `reading::put_unmarked` meets its contract: the parts of the work space are no marks, a fresh area and a fresh map, of the lengths that the frame has.
use native.Mathlib.Omega.{arith}
use Rattle.frame.specs.Frame.Limits.{slots_few, area_few}
use Rattle.reader.specs.Spoken.Answers.{part_size, unmarked}
use Rattle.reader.proofs.reading.put_unmarked.Goals as goal

pub slice_bounds-marks-end : goal.slice_bounds-marks-end
slice_bounds-marks-end c = omega (arith, slots_few _ c.requires.0)

pub slice_bounds-put_answer-end : goal.slice_bounds-put_answer-end
slice_bounds-put_answer-end c =
    part_size _ _ (slots_few _ c.requires.0) (omega arith)

pub slice_bounds-area-end : goal.slice_bounds-area-end
slice_bounds-area-end c = omega (arith, area_few _ c.requires.0)

pub slice_bounds-put_answer-end-2 : goal.slice_bounds-put_answer-end-2
slice_bounds-put_answer-end-2 c =
    part_size _ _ (area_few _ c.requires.0) (omega arith)

pub slice_bounds-map-end : goal.slice_bounds-map-end
slice_bounds-map-end c = omega (arith, slots_few _ c.requires.0)

pub slice_bounds-put_answer-end-3 : goal.slice_bounds-put_answer-end-3
slice_bounds-put_answer-end-3 c =
    part_size _ _ (slots_few _ c.requires.0) (omega arith)

pub returns : goal.returns
returns c =
    let few = c.requires.0 in
    rw (unmarked _ _ _ _ _ few c.filled-marks.ensures c.filled-area.ensures c.filled-map.ensures) at c.put_answer.ensures
