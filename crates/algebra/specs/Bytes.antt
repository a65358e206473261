-- A number as bytes, the lowest first, and two numbers of 64 bits as sixteen of them.
-- Assumes nothing.
use Rattle.std.specs.Prelude.{◌≡◌, List, ℕ, suc, ◌+◌, ◌-◌, ◌*◌, ◌/◌, ◌%◌, ◌^◌, ◌<◌, ◌≤◌, length}
use Rattle.std.proofs.Common.{sym, ap, ◌∙◌, subst, mod-lt, lt_of_lt_of_le, mul-add, arith, pow_pos, pow_mono, shl_lt, shr-shr}
use Rattle.std.proofs.Math.Nat.{div-eq_of_lt}
use Rattle.std.proofs.Math.Decide.{dec_lt}
use Rattle.std.specs.Int.Bits.{bit_xor, bit_and, xor_shifted}
use Rattle.std.proofs.lemmas.Nat.{xor_shr, xor_mod, xor_block, xor_lt, and_shr, and_mod}
use Rattle.std.proofs.Math.ListN.{get_or-eq_default}
use Rattle.std.proofs.Math.Pow.{field, mod-mod-pow}
use Rattle.std.proofs.Math.Pow
use Rattle.algebra.specs.Tests.{at}
use Rattle.algebra.specs.Lists.{tabulate, length_tabulate, get_or_tabulate}

-- byte i of n
unfoldable pub byte : ℕ → ℕ → ℕ
byte n i = n / 2 ^ (8 * i) % 256

pub byte_below : (n i : ℕ) → byte n i < 256
unfolding byte
byte_below n i = mod-lt (n / 2 ^ (8 * i)) (pow_pos 8)

pub byte_xor : (a b i : ℕ) → byte (bit_xor a b) i ≡ bit_xor (byte a i) (byte b i)
unfolding byte
byte_xor a b i = ap (λ (x : ℕ). x % 256) (xor_shr a b (8 * i)) ∙ xor_mod (a / 2 ^ (8 * i)) (b / 2 ^ (8 * i)) 8

pub byte_and : (a b i : ℕ) → byte (bit_and a b) i ≡ bit_and (byte a i) (byte b i)
unfolding byte
byte_and a b i = ap (λ (x : ℕ). x % 256) (and_shr a b (8 * i)) ∙ and_mod (a / 2 ^ (8 * i)) (b / 2 ^ (8 * i)) 8

-- moved down by k bytes
pub byte_moved : (n k i : ℕ) → byte (n / 2 ^ (8 * k)) i ≡ byte n (k + i)
unfolding byte
byte_moved n k i = ap (λ (x : ℕ). x % 256) (shr-shr n (8 * k) (8 * i) ∙ ap (λ (x : ℕ). n / 2 ^ x) (sym (mul-add 8 k i)))

-- nothing stands above
pub byte_none : (n k i : ℕ) → n < 2 ^ (8 * k) → k ≤ i → byte n i ≡ 0
unfolding byte
byte_none n k i h l = ap (λ (x : ℕ). x % 256) (div-eq_of_lt (lt_of_lt_of_le h (pow_mono (omega arith))))

pub byte_zero : (i : ℕ) → byte 0 i ≡ 0
unfolding byte
byte_zero i = ap (λ (x : ℕ). x % 256) (div-eq_of_lt (pow_pos (8 * i)))

-- ---- two words

-- the number of 128 bits
unfoldable pub whole : ℕ → ℕ → ℕ
whole low high = high * 2 ^ 64 + low

pub whole_below : (a b : ℕ) → a < 2 ^ 64 → b < 2 ^ 64 → whole a b < 2 ^ 128
unfolding whole
whole_below a b h k = rw (← xor_shifted b 64 a h) (xor_lt 128 (b * 2 ^ 64) a (shl_lt 64 64 k) (lt_of_lt_of_le h (pow_mono {i = 64} {j = 128} (omega arith))))

pub whole_xor : (a b c d : ℕ) → a < 2 ^ 64 → c < 2 ^ 64 → whole (bit_xor a c) (bit_xor b d) ≡ bit_xor (whole a b) (whole c d)
unfolding whole
whole_xor a b c d h k = sym (xor_block 64 b d a c h k)

-- moved down by one byte, and by four
pub moved_one : (a b : ℕ) → a < 2 ^ 64 → b < 2 ^ 64 → whole (a / 256 + b % 256 * 72057594037927936) (b / 256) ≡ whole a b / 256
unfolding whole
moved_one a b h k = omega arith

pub moved_four : (a b : ℕ) → a < 2 ^ 64 → b < 2 ^ 64 → whole (a / 4294967296 + b % 4294967296 * 4294967296) (b / 4294967296) ≡ whole a b / 4294967296
unfolding whole
moved_four a b h k = omega arith

pub moved_one_fits : (a b : ℕ) → a < 2 ^ 64 → a / 256 + b % 256 * 72057594037927936 < 2 ^ 64
moved_one_fits a b h =
    let e : a / 256 < 72057594037927936 = omega arith in
    omega arith

pub moved_four_fits : (a b : ℕ) → a < 2 ^ 64 → a / 4294967296 + b % 4294967296 * 4294967296 < 2 ^ 64
moved_four_fits a b h =
    let e : a / 4294967296 < 4294967296 = omega arith in
    omega arith

-- the sixteen bytes
unfoldable pub bytes : ℕ → ℕ → List ℕ
bytes a b = tabulate 16 (byte (whole a b))

pub bytes_length : (a b : ℕ) → length (bytes a b) ≡ 16
unfolding bytes
bytes_length a b = length_tabulate 16 (byte (whole a b))

pub bytes_at : (a b i : ℕ) → a < 2 ^ 64 → b < 2 ^ 64 → at (bytes a b) i ≡ byte (whole a b) i
unfolding bytes
bytes_at a b i h k = elim (dec_lt i 16) [
  | yes l ↦ get_or_tabulate 16 (byte (whole a b)) i 0 l
  | no l ↦ get_or-eq_default (tabulate 16 (byte (whole a b))) 0 {n = i} (omega (arith, length_tabulate 16 (byte (whole a b)))) ∙ sym (byte_none (whole a b) 16 i (whole_below a b h k) (omega arith))
]

-- ---- the bytes of each word

byte_low : (n i : ℕ) → i < 8 → byte (n % 2 ^ 64) i ≡ byte n i
unfolding byte
byte_low n i l =
    let e : 64 ≡ 64 - (8 + 8 * i) + (8 + 8 * i) = omega arith in
    sym (field (n % 2 ^ 64) 8 (8 * i)) ∙ ap (λ (x : ℕ). n % 2 ^ x % 2 ^ (8 + 8 * i) / 2 ^ (8 * i)) e
    ∙ ap (λ (x : ℕ). x / 2 ^ (8 * i)) (mod-mod-pow n (64 - (8 + 8 * i)) (8 + 8 * i)) ∙ field n 8 (8 * i)

pub whole_low : (a b i : ℕ) → a < 2 ^ 64 → i < 8 → byte (whole a b) i ≡ byte a i
unfolding whole
whole_low a b i h l = sym (byte_low (b * 2 ^ 64 + a) i l) ∙ ap (λ (x : ℕ). byte x i) (Pow.low b 64 h)

pub whole_high : (a b i : ℕ) → a < 2 ^ 64 → byte (whole a b) (8 + i) ≡ byte b i
unfolding whole
whole_high a b i h = sym (byte_moved (b * 2 ^ 64 + a) 8 i) ∙ ap (λ (x : ℕ). byte x i) (Pow.high b 64 h)

-- what holds of the bytes of each word holds of the sixteen, and what holds of 0 of those past the end
pub each_byte : (P : ℕ → ℕ → Type 0) (a b : ℕ) → a < 2 ^ 64 → b < 2 ^ 64 → ((i : ℕ) → i < 8 → P i (byte a i)) → ((i : ℕ) → i < 8 → P (8 + i) (byte b i))
    → ((i : ℕ) → 16 ≤ i → P i 0) → (i : ℕ) → P i (byte (whole a b) i)
each_byte P a b h k f g z i = elim (dec_lt i 8) [
  | yes l ↦ rw (whole_low a b i h l) (f i l)
  | no l ↦ elim (dec_lt i 16) [
    | yes u ↦
        let e : 8 + (i - 8) ≡ i = omega arith in
        subst (λ (x : ℕ). P x (byte (whole a b) x)) e (rw (whole_high a b (i - 8) h) (g (i - 8) (omega arith)))
    | no u ↦ rw (byte_none (whole a b) 16 i (whole_below a b h k) (omega arith)) (z i (omega arith))
  ]
]

-- ---- a byte put in front

pub byte_first : (x n : ℕ) → x < 256 → byte (x + 256 * n) 0 ≡ x
unfolding byte
byte_first x n h = omega arith

pub byte_next : (x n i : ℕ) → x < 256 → byte (x + 256 * n) (suc i) ≡ byte n i
byte_next x n i h =
    let e : (x + 256 * n) / 256 ≡ n = omega arith in
    let f : suc i ≡ 1 + i = omega arith in
    ap (byte (x + 256 * n)) f ∙ sym (byte_moved (x + 256 * n) 1 i) ∙ ap (λ (z : ℕ). byte z i) e

-- the words c and d have the bytes g
pub record Holds (c d : ℕ) (g : List ℕ) : Type 0 where
  pub each : (j : ℕ) → byte (whole c d) j ≡ at g j

pub holds_bytes : (c d : ℕ) → c < 2 ^ 64 → d < 2 ^ 64 → Holds c d (bytes c d)
holds_bytes c d lc ld = record { each = λ j. sym (bytes_at c d j lc ld) }
