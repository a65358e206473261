-- `field::shifts::double` meets its contract: the rule is tested at every byte, for each m (proofs/Doubles.antt).
use mathlib.Core.Path.{◌≡◌}
use Prim.Native.Nat.{◌/◌, ◌%◌}
use native.Mathlib.Omega.{arith}
use borrow.Author.Rules.{rules}
use Rattle.field.specs.Doubles.{doubled_by}
use Rattle.field.proofs.Doubles.{double_3, double_8}
use Rattle.field.proofs.shifts.double.Goals as goal

pub returns-then-m-eq3 : goal.returns-then-m-eq3
unfolding doubled_by
returns-then-m-eq3 c = double_3 _ _ c.if-m-eq3.true (search rules)

pub returns : goal.returns
unfolding doubled_by
returns c =
    let x = c.args.x in
    let e : x / 128 % 2 ≡ x / 128 = omega arith in
    rw e at (double_8 _ x c.if-m-eq3.false (search rules))
