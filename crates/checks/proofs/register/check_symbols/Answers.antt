-- `checks::register::check_symbols` meets its contract: the register holds the check symbols, in one word or in two.
use native.Mathlib.Omega.{arith}
use Rattle.checks.specs.Division.{divided_all}
use Rattle.checks.proofs.register.check_symbols.Goals as goal

pub returns-then-r-le8 : goal.returns-then-r-le8
returns-then-r-le8 c = rw c.bytes_of.ensures (divided_all _ _ _ _ _ _ _ _ _ c.requires.1 c.prepare.ensures (omega arith) c.remainder.ensures.divided)

pub returns : goal.returns
returns c = rw c.bytes_of-2.ensures (divided_all _ _ _ _ _ _ _ _ _ c.requires.1 c.prepare-2.ensures (omega arith) c.remainder-2.ensures.divided)
