-- `head::wanted` meets its contract: each return is one law of what is wanted, and a frame has at most 4080 slots.
use native.Mathlib.Omega.{arith}
use mathlib.Core.Path.{sym, ◌∙◌}
use Rattle.reader.specs.Head.{wanted_short, wanted_refused, wanted_slots}
use Rattle.reader.proofs.head.wanted.Goals as goal

pub returns-then-head-lt4 : goal.returns-then-head-lt4
returns-then-head-lt4 c = wanted_short _ (omega arith)

pub returns-then-not-is_allowed : goal.returns-then-not-is_allowed
returns-then-not-is_allowed c = wanted_refused _ (omega arith) (rw c.framing-f.ensures at (sym c.is_allowed.ensures ∙ c.if-not-is_allowed.true))

pub returns : goal.returns
returns c =
    let head = c.framing-f.ensures in
    rw head (wanted_slots _ (omega arith) (rw head at (sym c.is_allowed.ensures ∙ c.if-not-is_allowed.false)))
