-- The tables made: the rows of the eight powers of 2, the rows of all digits from them, and the next part's rows from this part's.
-- Assumes nothing.
use Rattle.std.specs.Prelude.{◌≡◌, refl, List, ℕ, zero, suc, ◌+◌, ◌*◌, ◌/◌, ◌%◌, ◌^◌, ◌<◌, ◌≤◌, length, set}
use Rattle.std.proofs.Math.Path.{ap}
use Rattle.std.proofs.Common.{ap₂, ◌∙◌, zero-add, add_comm, arith, length-set, pow_pos, pow-add, get_or-set_other}
use Rattle.std.proofs.Math.Decide.{dec_lt}
use Rattle.std.specs.Int.Bits.{bit_xor}
use Rattle.std.proofs.lemmas.Nat.{xor_lt}
use Rattle.algebra.specs.Tests.{at}
use Rattle.algebra.specs.Xor.{◌⊕◌, up}
use Rattle.field.specs.Field.{only}
use Rattle.field.specs.Products.{Linear, agree}
use Rattle.field.proofs.Elements.{K}
use Rattle.algebra.specs.Slices.{row, after_ext, row_add}
use Rattle.algebra.specs.Bytes.{byte, byte_xor, byte_zero, whole, whole_xor}
use Rattle.packed.specs.Combs.{comb, comb_linear, comb_term, comb_map}
use Rattle.checks.specs.Digits.{Digit, Twice, digit_none, digit_more}
use Rattle.checks.specs.Rows.{Rows, entry, both, one_at}

-- the eight pairs of p and q are the rows that the bits of a symbol leave with k symbols more behind it
pub record Basis (m : ℕ) (g : List ℕ) (k : ℕ) (p q : List ℕ) : Type 0 where
  pub size_l : length p ≡ 8
  pub size_h : length q ≡ 8
  pub small : (b : ℕ) → at p b < 2 ^ 64
  pub each : (b j : ℕ) → b < 8 → byte (whole (at p b) (at q b)) j ≡ row (K m) (at g) k (2 ^ b) j

-- the 32 rows from `from` on are the sums of the rows p of bits; nothing before them has changed
pub record Put (t u : List ℕ) (from : ℕ) (p : List ℕ) : Type 0 where
  pub size : length u ≡ length t
  pub kept : (j : ℕ) → j < from → at u j ≡ at t j
  pub lows : Digit 4 (λ b. at p (0 + b)) 16 u from
  pub highs : Digit 4 (λ b. at p (4 + b)) 16 u (from + 16)

-- ---- the rows of a part

pub rows_none : (m : ℕ) (g low high : List ℕ) → Rows 0 m g low high
rows_none m g low high = record { lows = λ k d i l h. absurd (omega arith); highs = λ k d i l h. absurd (omega arith) }

only_below : (d x : ℕ) → x < 2 ^ 64 → only d x < 2 ^ 64
only_below zero x h = pow_pos 64
only_below (suc d) x h = h

comb_below : (n : ℕ) (f : ℕ → ℕ) (v : ℕ) → ((i : ℕ) → f i < 2 ^ 64) → comb n f v < 2 ^ 64
unfolding comb ◌⊕◌
comb_below zero f v h = pow_pos 64
comb_below (suc n) f v h = xor_lt 64 _ _ (only_below (v % 2) (f 0) (h 0)) (comb_below n (λ i. f (suc i)) (v / 2) λ i. h (suc i))

only_whole : (d x y : ℕ) → whole (only d x) (only d y) ≡ only d (whole x y)
unfolding whole
only_whole zero x y = refl
only_whole (suc d) x y = refl

comb_whole : (n : ℕ) (f h : ℕ → ℕ) (v : ℕ) → ((i : ℕ) → f i < 2 ^ 64) → whole (comb n f v) (comb n h v) ≡ comb n (λ i. whole (f i) (h i)) v
unfolding comb ◌⊕◌ whole
comb_whole zero f h v l = refl
comb_whole (suc n) f h v l =
    whole_xor (only (v % 2) (f 0)) (only (v % 2) (h 0)) (comb n (λ i. f (suc i)) (v / 2)) (comb n (λ i. h (suc i)) (v / 2))
    (only_below (v % 2) (f 0) (l 0)) (comb_below n (λ i. f (suc i)) (v / 2) λ i. l (suc i))
    ∙ ap₂ ◌⊕◌ (only_whole (v % 2) (f 0) (h 0)) (comb_whole n (λ i. f (suc i)) (λ i. h (suc i)) (v / 2) λ i. l (suc i))

-- a digit's row is the sum of its bits' rows
digit_row : (F f : ℕ → ℕ) → Linear F → ((b : ℕ) → b < 4 → f b ≡ F (2 ^ b)) → (v : ℕ) → v < 16 → comb 4 f v ≡ F v
digit_row F f lin e v h = agree (comb 4 f) F (comb_linear 4 f) lin 4 (λ i l. comb_term 4 f i l ∙ e i l) v h

byte_linear : (j : ℕ) → Linear (λ x. byte x j)
unfolding ◌⊕◌
byte_linear j x y = byte_xor x y j

entry_row : (p q : ℕ → ℕ) (F : ℕ → ℕ) (v j : ℕ) → ((b : ℕ) → p b < 2 ^ 64) → Linear F → ((b : ℕ) → b < 4 → byte (whole (p b) (q b)) j ≡ F (2 ^ b)) → v < 16
    → byte (whole (comb 4 p v) (comb 4 q v)) j ≡ F v
entry_row p q F v j small lin e h =
    ap (λ (x : ℕ). byte x j) (comb_whole 4 p q v small) ∙ comb_map (λ x. byte x j) (byte_linear j) (byte_zero j) 4 (λ b. whole (p b) (q b)) v
    ∙ digit_row F (λ b. byte (whole (p b) (q b)) j) lin e v h

module _ (m : ℕ) (g low high low' high' p q : List ℕ) (k : ℕ) (rows : Rows k m g low high) (basis : Basis m g k p q) (put_l : Put low low' (32 * k) p) (put_h : Put high high' (32 * k) q) where
  row_linear : (j : ℕ) → Linear (λ x. row (K m) (at g) k x j)
  unfolding ◌⊕◌
  row_linear j x y = row_add (K m) (at g) k x y j

  high_linear : (j : ℕ) → Linear (λ x. row (K m) (at g) k (x * 16) j)
  unfolding ◌⊕◌
  high_linear j x y = ap (λ (z : ℕ). row (K m) (at g) k z j) (up 4 x y) ∙ row_add (K m) (at g) k (x * 16) (y * 16) j

  kept : (i j : ℕ) → i < 32 * k → byte (entry low' high' i) j ≡ byte (entry low high i) j
  kept i j l = ap₂ (λ (x y : ℕ). byte (whole x y) j) (put_l.kept i l) (put_h.kept i l)

  pub rows_more : Rows (k + 1) m g low' high'
  rows_more = record {
    lows = λ i d j l h. elim (dec_lt i k) [
      | yes y ↦ kept (32 * i + d) j (omega arith) ∙ rows.lows i d j y h
      | no y ↦
          let e : i ≡ k = omega arith in
          rw e (ap₂ (λ (x z : ℕ). byte (whole x z) j) (put_l.lows.each d h) (put_h.lows.each d h)
          ∙ entry_row (λ b. at p (0 + b)) (λ b. at q (0 + b)) (λ x. row (K m) (at g) k x j) d j (λ b. basis.small (0 + b)) (row_linear j)
          (λ b a. basis.each (0 + b) j (omega arith) ∙ ap (λ (z : ℕ). row (K m) (at g) k (2 ^ z) j) (zero-add b)) h)
    ];
    highs = λ i d j l h. elim (dec_lt i k) [
      | yes y ↦ kept (32 * i + 16 + d) j (omega arith) ∙ rows.highs i d j y h
      | no y ↦
          let e : i ≡ k = omega arith in
          rw e (ap₂ (λ (x z : ℕ). byte (whole x z) j) (put_l.highs.each d h) (put_h.highs.each d h)
          ∙ entry_row (λ b. at p (4 + b)) (λ b. at q (4 + b)) (λ x. row (K m) (at g) k (x * 16) j) d j (λ b. basis.small (4 + b)) (high_linear j)
          (λ b a. basis.each (4 + b) j (omega arith) ∙ ap (λ (z : ℕ). row (K m) (at g) k z j) (ap (λ (z : ℕ). 2 ^ z) (add_comm 4 b) ∙ pow-add 2 b 4)) h)
    ];
  }

-- ---- the rows of the next part's bits

-- each of the first n rows has been fed a zero
pub record Stepping (low high p q : List ℕ) (n : ℕ) (u v : List ℕ) : Type 0 where
  pub size_l : length u ≡ length p
  pub size_h : length v ≡ length q
  pub small : (b : ℕ) → b < n → at u b < 2 ^ 64
  pub done : (b : ℕ) → b < n → whole (at u b) (at v b) ≡ bit_xor (whole (at p b) (at q b) / 256) (both low high 0 (bit_xor 0 (at p b % 256)))
  pub todo_l : (b : ℕ) → n ≤ b → at u b ≡ at p b
  pub todo_h : (b : ℕ) → n ≤ b → at v b ≡ at q b

pub basis_more : (parts m : ℕ) (g low high p q u v : List ℕ) (k n : ℕ) → 0 < parts → 8 ≤ n → Rows parts m g low high → Basis m g k p q → Stepping low high p q n u v → Basis m g (k + 1) u v
unfolding row
basis_more parts m g low high p q u v k n some all rows basis s = record {
  size_l = s.size_l ∙ basis.size_l;
  size_h = s.size_h ∙ basis.size_h;
  small = λ b. elim (dec_lt b n) [ yes y ↦ s.small b y | no y ↦ rw (s.todo_l b (omega arith)) (basis.small b) ];
  each = λ b j l.
      let e : k + 1 ≡ suc k = omega arith in
      rw e (one_at parts m g low high rows (at p b) (at q b) (at u b) (at v b) some 0 (omega arith) (s.done b (omega arith)) j
      ∙ after_ext (K m) (at g) 0 (byte (whole (at p b) (at q b))) (row (K m) (at g) k (2 ^ b)) j (λ i. basis.each b i l));
}

-- ---- a digit's rows, and a part's, put into a table

pub record Digits (t u : List ℕ) (from : ℕ) (p : List ℕ) (o : ℕ) : Type 0 where
  pub size : length u ≡ length t
  pub kept : (j : ℕ) → j < from → at u j ≡ at t j
  pub rows : Digit 4 (λ b. at p (o + b)) 16 u from

pub digits : (t t1 t2 t3 t4 : List ℕ) (from : ℕ) (p : List ℕ) (o x y z w : ℕ) → from + 16 ≤ length t → x ≡ at p o → y ≡ at p (o + 1) → z ≡ at p (o + 2) → w ≡ at p (o + 3)
    → Twice (set t from 0) t1 from 1 x → Twice t1 t2 from 2 y → Twice t2 t3 from 4 z → Twice t3 t4 from 8 w → Digits t t4 from p o
digits t t1 t2 t3 t4 from p o x y z w l ex ey ez ew h1 h2 h3 h4 =
    let f : ℕ → ℕ = λ b. at p (o + b) in
    record {
      size = h4.size ∙ h3.size ∙ h2.size ∙ h1.size ∙ length-set t from 0;
      kept = λ j i. h4.kept j (omega arith) ∙ h3.kept j (omega arith) ∙ h2.kept j (omega arith) ∙ h1.kept j (omega arith) ∙ get_or-set_other t from j 0 0 (omega arith);
      rows = digit_more 4 f 3 t3 t4 from w (omega arith) ew
          (digit_more 4 f 2 t2 t3 from z (omega arith) ez
          (digit_more 4 f 1 t1 t2 from y (omega arith) ey
          (digit_more 4 f 0 (set t from 0) t1 from x (omega arith) (let i : o + 0 ≡ o = omega arith in rw i ex) (digit_none 4 f t from (omega arith)) h1) h2) h3) h4;
    }

pub puts : (t t1 t2 : List ℕ) (from : ℕ) (p : List ℕ) → Digits t t1 from p 0 → Digits t1 t2 (from + 16) p 4 → Put t t2 from p
puts t t1 t2 from p h k = record {
  size = k.size ∙ h.size;
  kept = λ j l. k.kept j (omega arith) ∙ h.kept j l;
  lows = record { each = λ v l. k.kept (from + v) (omega arith) ∙ h.rows.each v l };
  highs = k.rows;
}
