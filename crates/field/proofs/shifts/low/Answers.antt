-- `field::shifts::low` meets its contract: a byte is below 2^8.
use mathlib.Core.Path.{sym}
use native.Mathlib.Nat.{mod-eq_of_lt}
use borrow.Author.Rules.{rules}
use Rattle.field.specs.Elements.{wide_3, wide_8}
use Rattle.field.proofs.shifts.low.Goals as goal

pub returns-then-m-eq3 : goal.returns-then-m-eq3
returns-then-m-eq3 c = rw (wide_3 _ c.if-m-eq3.true)

pub returns : goal.returns
returns c = rw (wide_8 _ c.if-m-eq3.false) (sym (mod-eq_of_lt (search rules)))
