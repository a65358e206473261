-- `decoder::locate::Places::raise` meets its contract: a product depends on m by its width alone, which is that of 3 or of 8.
use Rattle.field.specs.Elements.{wide, wide_8}
use Rattle.decoder.specs.Candidates.{raised_wide}
use Rattle.decoder.proofs.locate.Places.raise.Goals as goal

pub returns-else-self-eq3 : goal.returns-else-self-eq3
unfolding wide
returns-else-self-eq3 c = raised_wide c.args.self.now.m 8 _ _ _ _ _ (wide_8 c.args.self.now.m c.if-self-eq3.false) c.raise_by-else-self-eq3.ensures
