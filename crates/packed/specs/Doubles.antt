-- Eight products by 2 in one word: a product of numbers that carries nothing from byte to byte is a product of each byte.
-- Assumes nothing.
use Rattle.std.specs.Prelude.{◌≡◌, ◌≢◌, Bool, T, eqb}
use Rattle.std.proofs.Math.Path.{sym, ap, ap₂}
use Rattle.std.proofs.Common.{◌∙◌, add_comm, add-mul, mul_right_comm, mul-le-mul_right, lt_of_le_of_lt, eqb→eq, shr-shr}
use Prim.Native.Nat.{ℕ, zero, suc, ◌+◌, ◌-◌, ◌*◌, ◌/◌, ◌%◌, ◌^◌, ◌<◌, ◌≤◌}
use Rattle.std.proofs.Math.Nat.{div-one}
use Rattle.std.proofs.Math.Decide.{dec_lt}
use native.Mathlib.Omega.{arith}
use Rattle.std.specs.Int.Bits.{bit_xor, bit_and}
use Rattle.std.proofs.lemmas.Nat.{and_mask, and_le_r}
use Rattle.std.proofs.Math.Pow.{split}
use Rattle.std.proofs.Math.Pow
use Rattle.algebra.specs.Tests.{each, each_at}
use Rattle.algebra.specs.Ring.{mul-zero}
use Rattle.field.specs.Elements.{prod}
use Rattle.field.proofs.Elements.{K}
use Rattle.field.specs.Doubles.{doubled_by}
use Rattle.field.proofs.Doubles.{double_3, double_8}
use Rattle.algebra.specs.Bytes.{byte, byte_xor, byte_and, byte_below, byte_none, whole, whole_below, whole_low, whole_high, each_byte}

-- ---- a product that carries nothing

module _ (c y : ℕ) (fits : (i : ℕ) → byte y i * c < 256) where
  turn : (q : ℕ) → q % 256 * c < 256 → q * c / 256 ≡ q / 256 * c
  turn q l =
      ap (λ (x : ℕ). x * c / 256) (sym (split q 8)) ∙ ap (λ (x : ℕ). x / 256) (add-mul (q / 256 * 256) (q % 256) c ∙ ap (λ (x : ℕ). x + q % 256 * c) (mul_right_comm (q / 256) 256 c))
      ∙ Pow.high (q / 256 * c) 8 l

  above : (i : ℕ) → y * c / 2 ^ (8 * i) ≡ y / 2 ^ (8 * i) * c
  unfolding byte
  above zero = div-one (y * c) ∙ ap (λ (x : ℕ). x * c) (sym (div-one y))
  above (suc i) =
      let e : 8 * suc i ≡ 8 * i + 8 = omega arith in
      rw e (sym (shr-shr (y * c) (8 * i) 8) ∙ ap (λ (x : ℕ). x / 256) (above i) ∙ turn (y / 2 ^ (8 * i)) (fits i) ∙ ap (λ (x : ℕ). x * c) (shr-shr y (8 * i) 8))

  low_part : (q : ℕ) → q % 256 * c < 256 → q * c % 256 ≡ q % 256 * c
  low_part q l =
      ap (λ (x : ℕ). x * c % 256) (sym (split q 8)) ∙ ap (λ (x : ℕ). x % 256) (add-mul (q / 256 * 256) (q % 256) c ∙ ap (λ (x : ℕ). x + q % 256 * c) (mul_right_comm (q / 256) 256 c))
      ∙ Pow.low (q / 256 * c) 8 l

  pub byte_times : (i : ℕ) → byte (y * c) i ≡ byte y i * c
  unfolding byte
  byte_times i = ap (λ (x : ℕ). x % 256) (above i) ∙ low_part (y / 2 ^ (8 * i)) (fits i)

-- ---- eight bytes v

-- M is the byte v eight times
pub record Eight (v M : ℕ) : Type 0 where
  pub within : M < 2 ^ 64
  pub each : (i : ℕ) → i < 8 → byte M i ≡ v

right : ℕ → ℕ → ℕ → Bool
right v M i = eqb (byte M i) v

eight : (v M : ℕ) → M < 2 ^ 64 → T (each 8 (right v M)) → Eight v M
unfolding right
eight v M l t = record { within = l; each = λ i h. eqb→eq _ _ (each_at 8 (right v M) t i h) }

eight_le : (v M i : ℕ) → Eight v M → byte M i ≤ v
eight_le v M i h = elim (dec_lt i 8) [
  | yes l ↦ omega (arith, h.each i l)
  | no l ↦ omega (arith, byte_none M 8 i h.within (omega arith))
]

-- the masked bytes, times c
pub masked : (v M c x : ℕ) → Eight v M → v * c < 256 → (i : ℕ) → i < 8 → byte (bit_and x M * c) i ≡ bit_and (byte x i) v * c
masked v M c x h l i k =
    byte_times c (bit_and x M)
    (λ j. rw (byte_and x M j) (let e : bit_and (byte x j) (byte M j) ≤ v = omega (arith, and_le_r (byte x j) (byte M j), eight_le v M j h) in lt_of_le_of_lt (mul-le-mul_right c e) l)) i
    ∙ ap (λ (z : ℕ). z * c) (byte_and x M i ∙ ap (bit_and (byte x i)) (h.each i k))

-- ---- the doubles of eight bytes

-- the rule of one byte for all bytes of a word; M is 2 ^ k - 1 eight times, and O is 1 eight times
unfoldable pub word_by : ℕ → ℕ → ℕ → ℕ → ℕ → ℕ
word_by k c M O x = bit_xor (bit_and x M * 2) (bit_and (x / 2 ^ k) O * c)

module _ (k c M O : ℕ) (h_m : Eight (2 ^ k - 1) M) (h_o : Eight 1 O) (two : (2 ^ k - 1) * 2 < 256) (rest : 1 * c < 256)
    (bit : (q : ℕ) → q / 2 ^ k % 256 % 2 ≡ q % 256 / 2 ^ k % 2) where
  word_by_lem : (x i : ℕ) → i < 8 → byte (word_by k c M O x) i ≡ doubled_by k c (byte x i)
  unfolding word_by doubled_by byte
  word_by_lem x i l =
      byte_xor (bit_and x M * 2) (bit_and (x / 2 ^ k) O * c) i
      ∙ ap₂ bit_xor (masked (2 ^ k - 1) M 2 x h_m two i l ∙ ap (λ (z : ℕ). z * 2) (and_mask (byte x i) k))
      (masked 1 O c (x / 2 ^ k) h_o rest i l ∙ ap (λ (z : ℕ). z * c) (and_mask (byte (x / 2 ^ k) i) 1
      ∙ ap (λ (z : ℕ). z % 256 % 2) (shr-shr x k (8 * i) ∙ ap (λ (z : ℕ). x / 2 ^ z) (add_comm k (8 * i)) ∙ sym (shr-shr x (8 * i) k)) ∙ bit (x / 2 ^ (8 * i))))

pub ones : Eight 1 72340172838076673
unfolding each right byte
ones = eight 1 72340172838076673 (omega arith) tt

sevens : Eight 127 9187201950435737471
unfolding each right byte
sevens = eight 127 9187201950435737471 (omega arith) tt

threes : Eight 3 217020518514230019
unfolding each right byte
threes = eight 3 217020518514230019 (omega arith) tt

-- ---- of one word, and of two

pub record Doubled (m x r : ℕ) : Type 0 where
  pub each : (i : ℕ) → i < 8 → byte r i ≡ prod m 2 (byte x i)

pub doubled_3 : (m x : ℕ) → m ≡ 3 → Doubled m x (bit_xor (bit_and x 217020518514230019 * 2) (bit_and (x / 4) 72340172838076673 * 3))
unfolding word_by
doubled_3 m x e = record { each = λ i l. word_by_lem 2 3 217020518514230019 72340172838076673 threes ones (omega arith) (omega arith) (λ q. omega arith) x i l ∙ double_3 m (byte x i) e (byte_below x i) }

pub doubled_8 : (m x : ℕ) → m ≢ 3 → Doubled m x (bit_xor (bit_and x 9187201950435737471 * 2) (bit_and (x / 128) 72340172838076673 * 29))
unfolding word_by
doubled_8 m x e = record { each = λ i l. word_by_lem 7 29 9187201950435737471 72340172838076673 sevens ones (omega arith) (omega arith) (λ q. omega arith) x i l ∙ double_8 m (byte x i) e (byte_below x i) }

pub record DoubledPair (m a b c d : ℕ) : Type 0 where
  pub each : (j : ℕ) → byte (whole c d) j ≡ prod m 2 (byte (whole a b) j)

pub doubled_pair : (m a b c d : ℕ) → a < 2 ^ 64 → b < 2 ^ 64 → c < 2 ^ 64 → d < 2 ^ 64 → Doubled m a c → Doubled m b d → DoubledPair m a b c d
doubled_pair m a b c d la lb lc ld h k = record {
  each = each_byte (λ j z. z ≡ prod m 2 (byte (whole a b) j)) c d lc ld
      (λ i l. h.each i l ∙ ap (prod m 2) (sym (whole_low a b i la l)))
      (λ i l. k.each i l ∙ ap (prod m 2) (sym (whole_high a b i la)))
      (λ i l. sym (ap (prod m 2) (byte_none (whole a b) 16 i (whole_below a b la lb) l) ∙ mul-zero (K m) 2));
}
