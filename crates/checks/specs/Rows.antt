-- The register of `checks` in two words: a turn by the rows of a table, for one symbol and for four.
-- Assumes nothing.
use Rattle.std.specs.Prelude.{◌≡◌, refl, List, length}
use Rattle.std.proofs.Math.Path.{sym, ap, ap₂}
use Rattle.std.proofs.Common.{◌∙◌, mod-lt, pow_pos}
use Prim.Native.Nat.{ℕ, suc, ◌+◌, ◌*◌, ◌/◌, ◌%◌, ◌^◌, ◌<◌}
use native.Mathlib.Omega.{arith}
use Rattle.std.specs.Int.Bits.{bit_xor, xor_shifted}
use Rattle.std.proofs.lemmas.Nat.{xor_comm, xor_lt, xor_shr, xor_mod}
use Rattle.std.proofs.Math.Pow.{split}
use Rattle.std.proofs.Math.Seq.{ext_get_or}
use Rattle.algebra.specs.Tests.{at}
use Rattle.algebra.specs.Xor.{xor_assoc}
use Rattle.algebra.specs.Register.{fed, fed_at, fed_length}
use Rattle.field.proofs.Elements.{K}
use Rattle.algebra.specs.Slices.{after, row, after_ext, after_one, after_four, row_add}
use Rattle.algebra.specs.Bytes.{byte, byte_xor, byte_moved, whole, bytes, bytes_length, bytes_at}

-- row j of the two tables, as a number of 128 bits
abbrev pub entry : List ℕ → List ℕ → ℕ → ℕ
entry low high j = whole (at low j) (at high j)

-- the tables hold, for each part and each digit of a symbol, the row that the digit leaves in a register that divides by g; part k is for a
-- symbol that has k more behind it in its turn
pub record Rows (parts m : ℕ) (g low high : List ℕ) : Type 0 where
  pub lows : (k d i : ℕ) → k < parts → d < 16 → byte (entry low high (32 * k + d)) i ≡ row (K m) (at g) k d i
  pub highs : (k d i : ℕ) → k < parts → d < 16 → byte (entry low high (32 * k + 16 + d)) i ≡ row (K m) (at g) k (d * 16) i

-- the two rows of the symbol f with k more behind it
unfoldable pub both : List ℕ → List ℕ → ℕ → ℕ → ℕ
both low high k f = bit_xor (entry low high (32 * k + f % 16)) (entry low high (32 * k + 16 + f / 16))

-- what the symbol s leaves in the register whose words are a and b
abbrev pub after_symbol : (low high : List ℕ) (a b s : ℕ) → ℕ
after_symbol low high a b s = bit_xor (whole a b / 256) (both low high 0 (bit_xor s (a % 256)))

module _ (parts m : ℕ) (g low high : List ℕ) (rows : Rows parts m g low high) where
  pub both_at : (k f i : ℕ) → k < parts → f < 256 → byte (both low high k f) i ≡ row (K m) (at g) k f i
  unfolding both
  both_at k f i l h =
      byte_xor _ _ i ∙ ap₂ bit_xor (rows.lows k (f % 16) i l (omega arith)) (rows.highs k (f / 16) i l (omega arith))
      ∙ sym (row_add (K m) (at g) k (f % 16) (f / 16 * 16) i)
      ∙ ap (λ (x : ℕ). row (K m) (at g) k x i) (xor_comm (f % 16) (f / 16 * 16) ∙ xor_shifted (f / 16) 4 (f % 16) (mod-lt f (pow_pos 4)) ∙ split f 4)

-- ---- a turn's entries

module _ (m : ℕ) (g : List ℕ) where
  at_fed : (s : ℕ) (reg : List ℕ) (u : ℕ → ℕ) → length reg ≡ length g → ((j : ℕ) → at reg j ≡ u j) → (i : ℕ) → at (fed (K m) g s reg) i ≡ after (K m) (at g) s u i
  unfolding after
  at_fed s reg u n e i = fed_at (K m) g s reg i n ∙ after_ext (K m) (at g) s (at reg) u i e

-- what four symbols leave; x is their sum with the four bytes that fall out, the first in the lowest byte
unfoldable pub four : List ℕ → List ℕ → ℕ → ℕ
four low high x =
    bit_xor (bit_xor (both low high 0 (x / 16777216 % 256)) (both low high 1 (x / 65536 % 256)))
    (bit_xor (both low high 2 (x / 256 % 256)) (both low high 3 (x % 256)))

-- what the four symbols of t leave in the register
abbrev pub after_symbols : (low high : List ℕ) (a b t : ℕ) → ℕ
after_symbols low high a b t = bit_xor (whole a b / 4294967296) (four low high (bit_xor t (a % 4294967296)))

-- the first bytes of two words are those of the lower one, which are those of its half
byte_0 : (a b : ℕ) → byte (whole a b) 0 ≡ a % 256
unfolding byte whole
byte_0 a b = omega arith

byte_1 : (a b : ℕ) → byte (whole a b) 1 ≡ a % 4294967296 / 256 % 256
unfolding byte whole
byte_1 a b = omega arith

byte_2 : (a b : ℕ) → byte (whole a b) 2 ≡ a % 4294967296 / 65536 % 256
unfolding byte whole
byte_2 a b = omega arith

byte_3 : (a b : ℕ) → byte (whole a b) 3 ≡ a % 4294967296 / 16777216 % 256
unfolding byte whole
byte_3 a b = omega arith

-- a byte of a sum
part : (k x y p q : ℕ) → x / 2 ^ k % 256 ≡ p → y / 2 ^ k % 256 ≡ q → bit_xor x y / 2 ^ k % 256 ≡ bit_xor p q
part k x y p q e f = ap (λ (z : ℕ). z % 256) (xor_shr x y k) ∙ xor_mod (x / 2 ^ k) (y / 2 ^ k) 8 ∙ ap₂ bit_xor e f

-- one symbol, place by place
module _ (parts m : ℕ) (g low high : List ℕ) (rows : Rows parts m g low high) (a b c d : ℕ) (some : 0 < parts) where
  pub one_at : (s : ℕ) → s < 256 → whole c d ≡ bit_xor (whole a b / 256) (both low high 0 (bit_xor s (a % 256))) → (i : ℕ) → byte (whole c d) i ≡ after (K m) (at g) s (byte (whole a b)) i
  one_at s ls e i =
      let next : 1 + i ≡ suc i = omega arith in
      ap (λ (x : ℕ). byte x i) e ∙ byte_xor (whole a b / 256) _ i
      ∙ ap₂ bit_xor (byte_moved (whole a b) 1 i) (both_at parts m g low high rows 0 (bit_xor s (a % 256)) i some (xor_lt 8 s (a % 256) ls (mod-lt a (pow_pos 8))))
      ∙ ap₂ (λ (x y : ℕ). bit_xor (byte (whole a b) x) (row (K m) (at g) 0 (bit_xor s y) i)) next (sym (byte_0 a b))
      ∙ sym (after_one (K m) (at g) s (byte (whole a b)) i)

-- in the register's own terms
module _ (m : ℕ) (g low high : List ℕ) (n : length g ≡ 16) (rows : Rows 4 m g low high) (a b c d : ℕ) (la : a < 2 ^ 64) (lb : b < 2 ^ 64) (lc : c < 2 ^ 64) (ld : d < 2 ^ 64) where
  fit : length (bytes a b) ≡ length g
  fit = bytes_length a b ∙ sym n

  pub turn_one : (s : ℕ) → s < 256 → whole c d ≡ bit_xor (whole a b / 256) (both low high 0 (bit_xor s (a % 256))) → bytes c d ≡ fed (K m) g s (bytes a b)
  turn_one s ls e =
      ext_get_or 0 (bytes c d) (fed (K m) g s (bytes a b)) (bytes_length c d ∙ sym n ∙ sym (fed_length (K m) g s (bytes a b) fit)) λ i l.
      bytes_at c d i lc ld ∙ one_at 4 m g low high rows a b c d (omega arith) s ls e i
      ∙ sym (at_fed m g s (bytes a b) (byte (whole a b)) fit (λ j. bytes_at a b j la lb) i)

  -- the register after the four symbols p, q, r, s
  module _ (p q r s : ℕ) (lp : p < 256) (lq : q < 256) (lr : r < 256) (ls : s < 256) where
    abbrev pub fed_four : List ℕ
    fed_four = fed (K m) g s (fed (K m) g r (fed (K m) g q (fed (K m) g p (bytes a b))))

    u : ℕ → ℕ
    u = byte (whole a b)

    n1 : length (fed (K m) g p (bytes a b)) ≡ length g
    n1 = fed_length (K m) g p (bytes a b) fit

    n2 : length (fed (K m) g q (fed (K m) g p (bytes a b))) ≡ length g
    n2 = fed_length (K m) g q _ n1

    n3 : length (fed (K m) g r (fed (K m) g q (fed (K m) g p (bytes a b)))) ≡ length g
    n3 = fed_length (K m) g r _ n2

    fed_four_at : (i : ℕ) → at fed_four i ≡ after (K m) (at g) s (after (K m) (at g) r (after (K m) (at g) q (after (K m) (at g) p u))) i
    unfolding u
    fed_four_at =
        at_fed m g s _ _ n3 (at_fed m g r _ _ n2 (at_fed m g q _ _ n1 (at_fed m g p (bytes a b) (byte (whole a b)) fit λ j. bytes_at a b j la lb)))

    module _ (t x : ℕ) (et : t ≡ p + q * 256 + r * 65536 + s * 16777216) (ex : x ≡ bit_xor t (a % 4294967296)) where
      x0 : x % 256 ≡ bit_xor p (u 0)
      unfolding u
      x0 =
          let e : t % 256 ≡ p = omega arith in
          let f : a % 4294967296 % 256 ≡ a % 256 = omega arith in
          rw (ex, byte_0 a b) (xor_mod t (a % 4294967296) 8 ∙ ap₂ bit_xor e f)

      x1 : x / 256 % 256 ≡ bit_xor q (u 1)
      unfolding u
      x1 = rw (ex, byte_1 a b) (part 8 t (a % 4294967296) q _ (omega arith) refl)

      x2 : x / 65536 % 256 ≡ bit_xor r (u 2)
      unfolding u
      x2 = rw (ex, byte_2 a b) (part 16 t (a % 4294967296) r _ (omega arith) refl)

      x3 : x / 16777216 % 256 ≡ bit_xor s (u 3)
      unfolding u
      x3 = rw (ex, byte_3 a b) (part 24 t (a % 4294967296) s _ (omega arith) refl)

      row_of : (k f z i : ℕ) → k < 4 → f % 256 ≡ z → byte (both low high k (f % 256)) i ≡ row (K m) (at g) k z i
      row_of k f z i l e = both_at 4 m g low high rows k (f % 256) i l (mod-lt f (pow_pos 8)) ∙ ap (λ (y : ℕ). row (K m) (at g) k y i) e

      four_at : (i : ℕ) → byte (four low high x) i ≡ bit_xor (bit_xor (row (K m) (at g) 0 (bit_xor s (u 3)) i) (row (K m) (at g) 1 (bit_xor r (u 2)) i))
          (bit_xor (row (K m) (at g) 2 (bit_xor q (u 1)) i) (row (K m) (at g) 3 (bit_xor p (u 0)) i))
      unfolding four
      four_at i =
          byte_xor _ _ i
          ∙ ap₂ bit_xor (byte_xor _ _ i ∙ ap₂ bit_xor (row_of 0 (x / 16777216) _ i (omega arith) x3) (row_of 1 (x / 65536) _ i (omega arith) x2))
          (byte_xor _ _ i ∙ ap₂ bit_xor (row_of 2 (x / 256) _ i (omega arith) x1) (row_of 3 x _ i (omega arith) x0))

      regroup : (v w y z : ℕ) → bit_xor v (bit_xor (bit_xor w y) z) ≡ bit_xor (bit_xor (bit_xor v w) y) z
      regroup v w y z = sym (xor_assoc v (bit_xor w y) z) ∙ ap (λ (o : ℕ). bit_xor o z) (sym (xor_assoc v w y))

      pub turn_four : whole c d ≡ bit_xor (whole a b / 4294967296) (four low high x) → bytes c d ≡ fed_four
      unfolding u
      turn_four e =
          ext_get_or 0 (bytes c d) fed_four (bytes_length c d ∙ sym n ∙ sym (fed_length (K m) g s _ n3)) λ i l.
          let next : 4 + i ≡ suc (suc (suc (suc i))) = omega arith in
          bytes_at c d i lc ld ∙ ap (λ (y : ℕ). byte y i) e ∙ byte_xor (whole a b / 4294967296) _ i
          ∙ ap₂ bit_xor (byte_moved (whole a b) 4 i ∙ ap u next) (four_at i)
          ∙ regroup (u (suc (suc (suc (suc i))))) (row (K m) (at g) 0 (bit_xor s (u 3)) i) (row (K m) (at g) 1 (bit_xor r (u 2)) i)
          (bit_xor (row (K m) (at g) 2 (bit_xor q (u 1)) i) (row (K m) (at g) 3 (bit_xor p (u 0)) i))
          ∙ sym (after_four (K m) (at g) p q r s u i) ∙ sym (fed_four_at i)
