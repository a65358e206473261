-- `marks_of` meets its contract: where no mark is set, zeros are every word's marks.
use mathlib.Core.Path.{sym, ◌∙◌}
use native.Mathlib.Omega.{arith}
use Rattle.frame.specs.Decoding.{no_marks_taken}
use Rattle.frame.proofs.receiver.Arrived.marks_of.Goals as goal

pub returns-then-self : goal.returns-then-self
returns-then-self c = rw c.filled.ensures (no_marks_taken _ _ _ _ (rw (sym c.args.self.now.plain_is ∙ c.if-self.true) tt) (omega arith))
