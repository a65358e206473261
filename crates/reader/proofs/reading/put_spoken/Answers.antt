-- `reading::put_spoken` meets its contract: each return is one law of the text.
use native.Mathlib.Omega.{arith}
use mathlib.Core.Path.{sym, ◌∙◌}
use Rattle.frame.specs.Frame.Limits.{frame_kept}
use Rattle.reader.specs.Spoken.Answers.{spoken_short, spoken_setting, spoken_answer}
use Rattle.reader.proofs.reading.put_spoken.Goals as goal

pub returns-then-input-lt4 : goal.returns-then-input-lt4
returns-then-input-lt4 c = rw (spoken_short c.args.input.now (omega arith)) at c.put_refusal.ensures

pub returns-then-not-is_allowed : goal.returns-then-not-is_allowed
returns-then-not-is_allowed c =
    let refused = rw c.framing-f.ensures at (sym c.is_allowed.ensures ∙ c.if-not-is_allowed.true) in
    rw (spoken_setting c.args.input.now (omega arith) refused) at c.put_refusal-then-not-is_allowed.ensures

pub put_unmarked-requires : goal.put_unmarked-requires
put_unmarked-requires c = (frame_kept _ (sym c.is_allowed.ensures ∙ c.if-not-is_allowed.false), omega arith)

pub returns : goal.returns
returns c = rw (c.framing-f.ensures, spoken_answer c.args.input.now (omega arith)) at c.put_unmarked.ensures
