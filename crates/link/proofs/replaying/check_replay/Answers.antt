-- `check_replay` meets its contract: each return is one law of what is wrong, or, at the end, nothing is.
use mathlib.Core.Path.{sym, ◌∙◌}
use native.Mathlib.Omega.{arith}
use Rattle.frame.specs.Frame.Limits.{frame_kept, area_few, slots_few}
use Rattle.link.specs.Replay.Checks.{some_slots, setting_wrong, too_many, lengths_wrong, lengths_right}
use Rattle.link.proofs.replaying.check_replay.Goals as goal
use Rattle.link.proofs.replaying.check_replay.Goals.{then-slots-frames-via-then-slots-frames, then-slots-frames-via-else-slots-frames+then-marks-slots, then-slots-frames-via-else-slots-frames+else-marks-slots+then-areas-frames, then-slots-frames-via-else-slots-frames+else-marks-slots+else-areas-frames+then-maps-slots, then-slots-frames-via-else-slots-frames+else-marks-slots+else-areas-frames+else-maps-slots+then-results-frames}

pub returns-then-not-is_allowed : goal.returns-then-not-is_allowed
returns-then-not-is_allowed c = setting_wrong _ _ _ _ _ _ (sym c.is_allowed.ensures ∙ c.if-not-is_allowed.true)

pub overflow_mul-size : goal.overflow_mul-size
overflow_mul-size c = omega (arith, slots_few _ (frame_kept _ (sym c.is_allowed.ensures ∙ c.if-not-is_allowed.false)))

pub overflow_mul-size-2 : goal.overflow_mul-size-2
overflow_mul-size-2 c = omega (arith, slots_few _ (frame_kept _ (sym c.is_allowed.ensures ∙ c.if-not-is_allowed.false)))

pub returns-then-size-slots : goal.returns-then-size-slots
returns-then-size-slots c = too_many _ _ _ _ _ _ (frame_kept _ (sym c.is_allowed.ensures ∙ c.if-not-is_allowed.false)) c.if-size-slots.true

pub nonzero_div-frames : goal.nonzero_div-frames
nonzero_div-frames c = omega (arith, some_slots _ (frame_kept _ (sym c.is_allowed.ensures ∙ c.if-not-is_allowed.false)))

pub overflow_sub-f : goal.overflow_sub-f
overflow_sub-f c = omega (arith, (frame_kept _ (sym c.is_allowed.ensures ∙ c.if-not-is_allowed.false)).words.room)

pub overflow_mul-f : goal.overflow_mul-f
overflow_mul-f c = omega (arith, area_few _ (frame_kept _ (sym c.is_allowed.ensures ∙ c.if-not-is_allowed.false)))

pub returns-then-slots-frames : goal.returns-then-slots-frames
returns-then-slots-frames c =
    lengths_wrong _ _ _ _ _ _ (frame_kept _ (sym c.is_allowed.ensures ∙ c.if-not-is_allowed.false)) c.if-size-slots.false
    (λ fit. elim c.then-slots-frames.branch [
      | then-slots-frames-via-then-slots-frames w ↦ w.if-slots-frames.true fit.slots_whole
      | then-slots-frames-via-else-slots-frames+then-marks-slots w ↦ w.if-marks-slots.true fit.marks_same
      | then-slots-frames-via-else-slots-frames+else-marks-slots+then-areas-frames w ↦ w.if-areas-frames.true fit.areas_fit
      | then-slots-frames-via-else-slots-frames+else-marks-slots+else-areas-frames+then-maps-slots w ↦ w.if-maps-slots.true fit.maps_same
      | then-slots-frames-via-else-slots-frames+else-marks-slots+else-areas-frames+else-maps-slots+then-results-frames w ↦ w.if-results-frames.true fit.results_fit
    ])

pub returns : goal.returns
returns c =
    lengths_right _ _ _ _ _ _ (frame_kept _ (sym c.is_allowed.ensures ∙ c.if-not-is_allowed.false)) c.if-size-slots.false (record {
      slots_whole = c.if-slots-frames.false;
      marks_same = c.if-marks-slots.false;
      areas_fit = c.if-areas-frames.false;
      maps_same = c.if-maps-slots.false;
      results_fit = c.if-results-frames.false;
    })
