-- The symbols apart are as many as the setting says.
use mathlib.Core.Path.{sym}
use Rattle.checks.specs.Spaced.{length_spaced}
use Rattle.checks.proofs.symbols.ApartSymbols.count.Goals as goal

pub returns : goal.returns
returns c = sym (length_spaced _ _ _ _)
