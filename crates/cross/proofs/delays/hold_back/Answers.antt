-- `delays::hold_back` meets its contract: it is what `run` promises of 28 steps.
use native.Mathlib.Omega.{arith}
use Rattle.cross.specs.Frames.{line_fits, frame_ran}
use Rattle.cross.proofs.delays.hold_back.Goals as goal

pub overflow_mul-position : goal.overflow_mul-position
overflow_mul-position c = rw c.frames_of_a_cycle-frames.ensures (omega arith)

pub run-requires : goal.run-requires
run-requires c = rw c.frames_of_a_cycle-frames.ensures (line_fits _ _ c.requires.0)

pub returns : goal.returns
returns c =
    frame_ran _ _ _ _ _ _ _ c.requires.1 (rw c.frames_of_a_cycle-frames.ensures at c.run.ensures)
