-- `put_byte` meets its contract: one store, and the next place.
use mathlib.Core.Path.{refl}
use Rattle.text.specs.Put.{put_one}
use Rattle.text.proofs.Page.put_byte.Goals as goal

pub returns : goal.returns
returns c = record { same = refl; written = put_one _ _ _ c.requires }
