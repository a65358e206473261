-- `packed::bytes::bytes_of` meets its contract. The invariant: the first i symbols stand.
use Rattle.algebra.specs.Lists.{Filled}
use Rattle.algebra.specs.Bytes.{byte, whole}
use Rattle.packed.proofs.bytes.bytes_of.Given as goal

abbrev pub invariant-loop-i : goal.invariant-loop-i
invariant-loop-i l = Filled 16 (byte (whole l.p.low l.p.high)) l.i l.out
