-- `checks::generator::generator` meets its contract.
use Rattle.checks.specs.Growth.{stored, stored_cross}
use Rattle.checks.proofs.generator.generator.Goals as goal

pub returns-in-8-eq0-eq16 : goal.returns-in-8-eq0-eq16
returns-in-8-eq0-eq16 c = stored _ _ _ c.in-8-eq0-eq16.is-0 c.in-8-eq0-eq16.is-1 c.in-8-eq0-eq16.is-2

pub returns-in-8-eq0-eq4 : goal.returns-in-8-eq0-eq4
returns-in-8-eq0-eq4 c = stored_cross _ _ _ c.in-8-eq0-eq4.is-0 c.in-8-eq0-eq4.is-1 c.in-8-eq0-eq4.is-2
