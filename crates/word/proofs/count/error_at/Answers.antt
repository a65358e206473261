-- `count::error_at` meets its contract: the test is the specification's, as a number.
use mathlib.Core.Path.{refl}
use native.Mathlib.Omega.{arith}
use Rattle.std.proofs.Common.{eq-eqb, ne_eqb}
use Rattle.word.specs.Figures.{error_of, bit_of}
use Rattle.word.proofs.count.error_at.Goals as goal
use Rattle.word.proofs.count.error_at.Goals.{then-mark-eq0, else-mark-eq0}

pub returns : goal.returns
unfolding error_of
returns c =
    elim c.if-mark-eq0.branch [
      | then-mark-eq0 w ↦ rw (c.from.ensures, w.from-is, eq-eqb _ _ w.if-mark-eq0.true) (bit_of _)
      | else-mark-eq0 w ↦ rw (c.from.ensures, w.from-is, ne_eqb _ _ w.if-mark-eq0.false) (refl, omega arith)
    ]
