-- `put_decimal` meets its contract: the digits before the last are those of the tenth part, which is the measure's fall.
use Rattle.std.proofs.Common.{rules, ap, arith, length, ◌≡◌, ◌%◌}
use Rattle.text.specs.Text.{digit}
use Rattle.text.specs.Page.{writes_end, writes_size}
use Rattle.text.specs.Pieces.{writes_digit, writes_last}
use Rattle.text.specs.Text.Decimal.{decimal_one, decimal_more_size}
use Rattle.text.proofs.Page.+put_decimal.Goals as goal
use Rattle.text.proofs.Page.+put_decimal.Goals.{then-n-ge10, else-n-ge10}

pub put_decimal-requires : goal.put_decimal-requires
put_decimal-requires t c = (omega arith, omega (arith, decimal_more_size _ c.if-n-ge10.true))

pub put_byte-requires : goal.put_byte-requires
put_byte-requires t c = elim c.if-n-ge10.branch [
  | then-n-ge10 w ↦ rw w.self-is (omega (arith, decimal_more_size _ w.if-n-ge10.true, writes_end w.put_decimal.ensures, writes_size w.put_decimal.ensures))
  | else-n-ge10 w ↦ rw w.self-is (omega (arith, ap length (decimal_one _ w.if-n-ge10.false)))
]

pub returns : goal.returns
returns t c =
    let last : c.digit.result ≡ digit (c.args.n % 10) = search rules in
    elim c.if-n-ge10.branch [
      | then-n-ge10 w ↦ writes_last _ _ last c.put_byte.ensures w.if-n-ge10.true w.put_decimal.ensures w.self-is
      | else-n-ge10 w ↦ writes_digit _ _ last c.put_byte.ensures w.if-n-ge10.false w.self-is
    ]
