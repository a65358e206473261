-- `reading::put_answer` meets its contract: what receiving answered is what is told of it, and a payload is no longer than its area.
use native.Mathlib.Omega.{arith}
use Rattle.reader.specs.Spoken.Answers.{told_refused, told_accepted, payload_fits}
use Rattle.reader.proofs.reading.put_answer.Goals as goal

pub put_frame-requires : goal.put_frame-requires
put_frame-requires c =
    let kept = c.receive.auto in
    let pre = c.requires in
    omega (arith, payload_fits _ _ _ c.payload-payload.ensures.outcome, kept.area, kept.map, pre.0, pre.1, pre.2, pre.3)

pub returns-in-Ok : goal.returns-in-Ok
returns-in-Ok c = told_accepted _ _ _ _ _ c.in-Ok.ensures.outcome _ c.payload-payload.ensures.outcome c.put_frame.ensures

pub returns-in-Err : goal.returns-in-Err
returns-in-Err c = told_refused _ _ _ _ _ c.in-Err.ensures.outcome _ c.number_of.ensures c.put_refusal.ensures
