-- `checks::tables::width` meets its contract.
use native.Mathlib.Omega.{arith}
use mathlib.Core.Path.{sym}
use Rattle.field.specs.Elements.{wide_3, wide_8}
use Rattle.checks.proofs.tables.width.Goals as goal

pub returns-then-m-eq3 : goal.returns-then-m-eq3
returns-then-m-eq3 c = (sym (wide_3 _ c.if-m-eq3.true), omega arith)

pub returns : goal.returns
returns c = (sym (wide_8 _ c.if-m-eq3.false), omega arith)
