-- `field::tables::power_at` meets its contract: the table's rule, and that the powers come again after 2^m - 1 of them.
use mathlib.Core.Path.{◌∙◌}
use Prim.Native.Nat.{◌%◌}
use borrow.Author.Rules.{rules}
use Rattle.field.specs.Powers.{powers_at, power_mod}
use Rattle.field.specs.Gf3.{rules3, powers3}
use Rattle.field.specs.Gf8.{rules8, powers8}
use Rattle.field.specs.Elements.{wide_3, wide_8}
use Rattle.field.proofs.tables.power_at.Goals as goal

pub returns-then-m-eq3 : goal.returns-then-m-eq3
unfolding powers3
returns-then-m-eq3 c =
    rw (wide_3 _ c.if-m-eq3.true) (powers_at rules3 (c.args.i % 7) (search rules) ∙ power_mod rules3 c.args.i)

pub returns : goal.returns
unfolding powers8
returns c =
    rw (wide_8 _ c.if-m-eq3.false) (powers_at rules8 (c.args.i % 255) (search rules) ∙ power_mod rules8 c.args.i)
