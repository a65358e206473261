-- `checks::tables::first_bits` meets its contract. The invariant: d is the polynomial times a^i, the first i rows stand, and the others are zero.
use Rattle.algebra.specs.Bytes.{bytes}
use Rattle.checks.specs.Starts.{Doubling}
use Rattle.checks.specs.OneWord.{Alone, Unused}
use Rattle.checks.proofs.tables.first_bits.Given as goal

abbrev pub invariant-loop-i : goal.invariant-loop-i
invariant-loop-i g l = record {
  doubling : Doubling l.m (bytes l.initial.d.low l.initial.d.high) l.i l.d.low l.d.high l.bits.low l.bits.high;
  alone : Alone g.T.Table.alone l.d.high;
  unused : Unused g.T.Table.alone l.bits.high;
}
