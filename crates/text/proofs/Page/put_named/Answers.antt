-- `put_named` meets its contract: the name, then the number, which has at most five digits.
use native.Mathlib.Omega.{arith}
use Rattle.text.specs.Page.{writes_end, writes_size, writes_then}
use Rattle.text.specs.Text.{named}
use Rattle.text.specs.Text.Decimal.{decimal_size}
use Rattle.text.proofs.Page.put_named.Goals as goal

pub put_decimal-requires : goal.put_decimal-requires
put_decimal-requires c = omega (arith, decimal_size 4 c.args.n c.requires.0, writes_end c.put.ensures, writes_size c.put.ensures)

pub returns : goal.returns
unfolding named
returns c = record {
  whole = writes_then c.put.ensures c.put_decimal.ensures;
  within = omega (arith, decimal_size 4 c.args.n c.requires.0, writes_end c.put.ensures, writes_end c.put_decimal.ensures);
}
