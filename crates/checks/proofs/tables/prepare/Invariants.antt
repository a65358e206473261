-- `checks::tables::prepare` meets its contract. The invariant: the rows of the first parts stand, and the bits are those of the next part.
use Rattle.checks.specs.Checks.{divisor}
use Rattle.checks.specs.Rows.{Rows}
use Rattle.checks.specs.Tables.{Basis}
use Rattle.checks.specs.OneWord.{Unused}
use Rattle.checks.proofs.tables.prepare.Given as goal

abbrev pub invariant-loop-part : goal.invariant-loop-part
invariant-loop-part g l = record {
  rows : Rows l.part l.m (divisor l.m l.b l.r) (g.T.Table.low l.table) (g.T.Table.high l.table);
  basis : Basis l.m (divisor l.m l.b l.r) l.part l.bits.low l.bits.high;
  unused : Unused g.T.Table.alone l.bits.high;
}
