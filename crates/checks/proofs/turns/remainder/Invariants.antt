-- `checks::turns::remainder` meets its contract. The invariant of both loops: the register is that after so many symbols.
use Prim.Native.Nat.{◌*◌}
use Rattle.checks.specs.Division.{Divided}
use Rattle.checks.specs.OneWord.{Alone}
use Rattle.checks.proofs.turns.remainder.Given as goal

abbrev pub invariant-loop-turn : goal.invariant-loop-turn
invariant-loop-turn g l = record {
  divided : Divided (g.T.Table.low l.table) (g.T.Table.high l.table) (g.S.Symbols.list l.symbols) (4 * l.turn) l.p.low l.p.high;
  alone : Alone g.T.Table.alone l.p.high;
}

abbrev pub invariant-loop-i : goal.invariant-loop-i
invariant-loop-i g l = record {
  divided : Divided (g.T.Table.low l.table) (g.T.Table.high l.table) (g.S.Symbols.list l.symbols) l.i l.p.low l.p.high;
  alone : Alone g.T.Table.alone l.p.high;
}
