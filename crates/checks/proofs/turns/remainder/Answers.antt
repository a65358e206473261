-- `checks::turns::remainder` meets its contract. The invariant of both loops: the register is that after so many symbols.
use mathlib.Core.Path.{◌≡◌}
use Prim.Native.Nat.{◌+◌, ◌*◌}
use native.Mathlib.Omega.{arith}
use borrow.Author.Rules.{rules}
use Rattle.checks.specs.Division.{divided_none, divided_one, divided_four}
use Rattle.checks.specs.OneWord.{alone_zero}
use Rattle.checks.proofs.turns.remainder.Goals as goal

pub loop-turn-init : goal.loop-turn-init
loop-turn-init g c = record {
  divided = divided_none _ _ _ _ _ c.none-p.ensures.0 c.none-p.ensures.1;
  alone = alone_zero _ _ c.none-p.ensures.1;
}

pub loop-turn-preserved : goal.loop-turn-preserved
loop-turn-preserved g c =
    let o = c.loop-turn in
    let next : 4 * (o.turn + 1) ≡ 4 * o.turn + 4 = omega arith in
    record {
      divided = rw next (divided_four _ _ _ _ _ _ _ _ o.invariant.divided (search rules) (search rules) _ (omega (arith, c.count-turns.ensures)) c.four.ensures c.fed_four-p.ensures.number);
      alone = c.fed_four-p.ensures.upper o.invariant.alone;
    }

pub loop-i-preserved : goal.loop-i-preserved
loop-i-preserved g c =
    let o = c.loop-i in
    record {
      divided = divided_one _ _ _ _ _ _ _ _ o.invariant.divided (search rules) (search rules) _ (omega (arith, c.count-i-end.ensures)) c.one.ensures c.fed-p.ensures.number;
      alone = c.fed-p.ensures.upper o.invariant.alone;
    }
