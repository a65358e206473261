-- `packed::bytes::bytes_of` meets its contract. The invariant: the first i symbols stand.
use native.Mathlib.Omega.{arith}
use Rattle.algebra.specs.Lists.{filled_all}
use Rattle.algebra.specs.Bytes.{bytes}
use Rattle.packed.proofs.bytes.bytes_of.Goals as goal

pub returns : goal.returns
unfolding bytes
returns c = filled_all 16 _ _ _ (omega arith) c.loop-i.invariant
