-- `count::bits_at` meets its contract: the exclusive or of two bytes is below 2^8, so it has at most 8 ones.
use mathlib.Core.Path.{refl}
use native.Mathlib.Omega.{arith}
use Prim.Native.Nat.{ℕ, ◌≤◌, ◌<◌}
use lib.Bits.{bit_xor, xor_lt}
use lib.Count.{ones, ones-le}
use Rattle.algebra.specs.Xor.{◌⊕◌}
use Rattle.word.proofs.count.bits_at.Goals as goal

few : (x y : ℕ) → x < 256 → y < 256 → ones (bit_xor x y) ≤ 8
few x y h k = ones-le 8 _ (xor_lt 8 x y h k)

pub returns : goal.returns
returns c = (unfold ◌⊕◌ in refl, omega (arith, few c.args.x c.args.y (omega arith) (omega arith)))
