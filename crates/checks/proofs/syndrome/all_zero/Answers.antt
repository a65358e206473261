-- `checks::syndrome::all_zero` meets its contract. The loop's invariant: the values before `j` are zero.
use mathlib.Core.Path.{sym, ◌∙◌}
use native.Mathlib.Omega.{arith}
use Rattle.checks.specs.Syndromes.{all_zero_yes, all_zero_no}
use Rattle.checks.proofs.syndrome.all_zero.Goals as goal

pub returns-then-low-ne0 : goal.returns-then-low-ne0
returns-then-low-ne0 c = sym (all_zero_no _ _ _ c.loop-j.j (omega arith) λ e. c.if-low-ne0.true (c.low.ensures ∙ e))

pub returns : goal.returns
returns c = sym (all_zero_yes _ _ _ λ j l. c.loop-j.invariant j (omega arith))
