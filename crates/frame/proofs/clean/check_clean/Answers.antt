-- `clean::check_clean` meets its contract: at the end both needs are met.
use mathlib.Core.Path.{sym, ◌∙◌}
use native.Mathlib.Omega.{arith}
use Rattle.frame.specs.Frame.Limits.{frame_kept}
use Rattle.frame.specs.Checks.{clean_met}
use Rattle.frame.proofs.clean.check_clean.Goals as goal

pub returns : goal.returns
returns c = clean_met _ _ (frame_kept _ (sym c.is_allowed.ensures ∙ c.if-not-is_allowed.false)) (omega arith)
