-- `put_signed` meets its contract: from 2 ^ 31 on the number is negative, and its sign stands before what it lacks to 2 ^ 32.
use mathlib.Core.Path.{ap}
use native.Mathlib.Omega.{arith}
use lib.ListN.{length}
use Rattle.text.specs.Page.{writes_end, writes_size, writes_then}
use Rattle.text.specs.Text.Decimal.{signed_plus, signed_minus}
use Rattle.text.proofs.Page.put_signed.Goals as goal

pub put_decimal-requires : goal.put_decimal-requires
put_decimal-requires c = omega (arith, ap length (signed_plus _ c.if-size-lt2147483648.true))

pub returns-then-size-lt2147483648 : goal.returns-then-size-lt2147483648
returns-then-size-lt2147483648 c = rw (signed_plus _ c.if-size-lt2147483648.true) c.put_decimal.ensures

pub put_byte-requires : goal.put_byte-requires
put_byte-requires c = omega (arith, ap length (signed_minus _ c.if-size-lt2147483648.false))

pub put_decimal-requires-2 : goal.put_decimal-requires-2
put_decimal-requires-2 c =
    omega (arith, ap length (signed_minus _ c.if-size-lt2147483648.false), writes_end c.put_byte.ensures, writes_size c.put_byte.ensures)

pub returns : goal.returns
returns c =
    rw (signed_minus _ c.if-size-lt2147483648.false) (writes_then c.put_byte.ensures c.put_decimal-2.ensures)
