-- `checks::tables::step` meets its contract. The invariant: the first i rows have been fed a zero.
use Rattle.checks.specs.Tables.{Stepping}
use Rattle.checks.specs.OneWord.{Unused}
use Rattle.checks.proofs.tables.step.Given as goal

abbrev pub invariant-loop-i : goal.invariant-loop-i
invariant-loop-i g l = record {
  stepped : Stepping (g.T.Table.low l.table) (g.T.Table.high l.table) l.initial.bits.low l.initial.bits.high l.i l.bits.low l.bits.high;
  unused : Unused g.T.Table.alone l.bits.high;
}
