-- `checks::register::checks_by` meets its contract.
use native.Mathlib.Omega.{arith}
use Rattle.checks.specs.Prepared.{by_short, by_long}
use Rattle.checks.proofs.register.checks_by.Goals as goal

pub returns-then-r-le8 : goal.returns-then-r-le8
returns-then-r-le8 g c = rw c.bytes_of.ensures (by_short _ _ _ _ _ _ c.if-r-le8.true c.remainder.ensures.divided)

pub returns : goal.returns
returns g c = rw c.bytes_of-2.ensures (by_long _ _ _ _ _ _ (omega arith) c.remainder-2.ensures.divided)
