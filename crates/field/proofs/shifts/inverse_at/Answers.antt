-- `field::shifts::inverse_at` meets its contract: with each product the exponents add up, to 6 at m = 3 and to 14 + 15 * 16 at m = 8, which
-- is 2^m - 2.
use borrow.Author.Rules.{rules}
use Rattle.field.specs.Elements.{wide_3, wide_8}
use Rattle.field.proofs.Raising.{raises_one, raises_more, raises_power, raises_inverse}
use Rattle.field.proofs.shifts.inverse_at.Goals as goal

pub returns-then-m-eq3 : goal.returns-then-m-eq3
returns-then-m-eq3 c =
    let x2 = raises_more _ _ 1 1 _ _ _ (raises_one _ _) (raises_one _ _) c.times-x2.ensures in
    let x4 = raises_more _ _ 2 2 _ _ _ x2 x2 c.times-x4.ensures in
    raises_inverse _ _ 2 4 _ _ _ (rw (wide_3 _ c.if-m-eq3.true)) x2 x4 c.times-x6.ensures

pub returns : goal.returns
returns c =
    let m8 = wide_8 _ c.if-m-eq3.false in
    let one = raises_one _ _ in
    let x2 = raises_more _ _ 1 1 _ _ _ one one c.times-x2.ensures in
    let x4 = raises_more _ _ 2 2 _ _ _ x2 x2 c.times-x4.ensures in
    let x6 = raises_more _ _ 2 4 _ _ _ x2 x4 c.times-x6.ensures in
    let x8 = raises_more _ _ 4 4 _ _ _ x4 x4 c.times.ensures in
    let x14 = raises_more _ _ 6 8 _ _ _ x6 x8 c.times-x14.ensures in
    let x15 = raises_more _ _ 1 14 _ _ _ one x14 c.times-x15.ensures in
    let x240 = raises_power _ _ 8 15 16 _ _ m8 x15 c.sixteenth.ensures (search rules) in
    raises_inverse _ _ 14 240 _ _ _ (rw m8) x14 x240 c.times-2.ensures
