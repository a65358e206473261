-- `field::power` meets its contract: m is tested first, and a number that passes names its own field.
use mathlib.Core.Path.{sym, ◌∙◌}
use Rattle.field.specs.Answers.{power_of}
use Rattle.field.proofs.Calls.{power_is}
use Rattle.field.proofs.power.Goals as goal

pub returns-then-not-is_field : goal.returns-then-not-is_field
unfolding power_of
returns-then-not-is_field c = simp (sym c.is_field.ensures ∙ c.if-not-is_field.true)

pub returns : goal.returns
returns c = power_is _ (sym c.is_field.ensures ∙ c.if-not-is_field.false) _ _ c.power_at.ensures
