-- `checks::tables::prepare` meets its contract. The invariant: the rows of the first parts stand, and the bits are those of the next part.
use native.Mathlib.Omega.{arith}
use borrow.Author.Rules.{rules}
use Rattle.checks.specs.Tables.{rows_more, basis_more}
use Rattle.checks.specs.Starts.{divisor_elements}
use Rattle.checks.specs.OneWord.{high_none}
use Rattle.checks.proofs.tables.prepare.Goals as goal

pub first_bits-bits-requires : goal.first_bits-bits-requires
first_bits-bits-requires g c =
    (divisor_elements _ _ _ _ c.generator.ensures, high_none _ _ _ _ _ _ c.requires.2 (search rules) (search rules) c.generator.ensures)

pub loop-part-preserved : goal.loop-part-preserved
loop-part-preserved g c =
    let o = c.loop-part.invariant in
    let rows = rows_more _ _ _ _ _ _ _ _ _ o.rows o.basis c.put.ensures.lower c.put.ensures.upper in
    record {
      rows = rows;
      basis = basis_more _ _ _ _ _ _ _ _ _ _ 8 (omega arith) (omega arith) rows o.basis c.step.ensures.stepped;
      unused = c.step.ensures.unused;
    }
