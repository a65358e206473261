-- `packed::bytes::byte_of` meets its contract.
use mathlib.Core.Path.{refl}
use Rattle.algebra.specs.Bytes.{byte}
use Rattle.packed.proofs.bytes.byte_of.Goals as goal

pub returns : goal.returns
unfolding byte
returns c = refl
