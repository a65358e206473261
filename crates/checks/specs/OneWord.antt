-- The register and its table in one word, for at most eight check symbols: the second word, and the second table, are zero.
-- Assumes nothing.
use Rattle.std.specs.Prelude.{◌≡◌, refl, Bool, true, List, ◌∷◌, ℕ, zero, suc, ◌+◌, ◌-◌, ◌*◌, ◌/◌, ◌%◌, ◌^◌, ◌<◌, ◌≤◌, replicate, set}
use Rattle.std.proofs.Common.{sym, ap, ◌∙◌, arith, pow-add, div-one}
use Rattle.std.proofs.Math.ListN.{get_or-eq_default}
use Rattle.algebra.specs.Tests.{at}
use Rattle.algebra.specs.Register.{generator, generator_length, behind}
use Rattle.algebra.specs.Bytes.{byte, byte_moved, whole, whole_high, bytes, bytes_at}
use Rattle.field.proofs.Elements.{K}
use Rattle.packed.specs.Combs.{comb_none}
use Rattle.checks.specs.Roots.{root}
use Rattle.checks.specs.Checks.{divisor}
use Rattle.checks.specs.Digits.{Digit}
use Rattle.checks.specs.Tables.{Put}
use Rattle.checks.specs.Starts.{zeros}

-- no second table
abbrev pub none : List ℕ
none = replicate 128 0

-- where a register is one word, its second is zero; so are those of the rows of bits, and there are at most eight check symbols
pub record Alone (alone : Bool) (high : ℕ) : Type 0 where
  pub zero_high : alone ≡ true → high ≡ 0

pub record Unused (alone : Bool) (highs : List ℕ) : Type 0 where
  pub zeros_high : alone ≡ true → highs ≡ replicate 8 0

pub record Enough (alone : Bool) (r : ℕ) : Type 0 where
  pub few : alone ≡ true → r ≤ 8

pub alone_zero : (alone : Bool) (x : ℕ) → x ≡ 0 → Alone alone x
alone_zero alone x e = record { zero_high = λ _. e }

pub alone_moved : (alone : Bool) (x y : ℕ) → (x ≡ 0 → y ≡ 0) → Alone alone x → Alone alone y
alone_moved alone x y f h = record { zero_high = λ one. f (h.zero_high one) }

pub unused_none : (alone : Bool) → Unused alone (replicate 8 0)
unused_none alone = record { zeros_high = λ _. refl }

set_zero : (n k : ℕ) → set {A = ℕ} (replicate n 0) k 0 ≡ replicate n 0
set_zero zero k = refl
set_zero (suc n) zero = refl
set_zero (suc n) (suc k) = ap (λ (w : List ℕ). 0 ∷ w) (set_zero n k)

pub unused_set : (alone : Bool) (highs : List ℕ) (k x : ℕ) → Unused alone highs → Alone alone x → Unused alone (set highs k x)
unused_set alone highs k x h a = record { zeros_high = λ one. rw (h.zeros_high one, a.zero_high one) (set_zero 8 k) }

pub unused_at : (highs : List ℕ) (k : ℕ) → Unused true highs → 0 ≡ at highs k
unused_at highs k h = rw (h.zeros_high refl) (sym ((zeros 8).each k))

-- ---- a row, and the polynomial, fit one word

pub row_one : (low : List ℕ) (j : ℕ) → whole (at low j) 0 ≡ whole (at low j) (at none j)
row_one low j = ap (whole (at low j)) (sym ((zeros 128).each j))

divisor_behind : (m b r i : ℕ) → r ≤ i → at (divisor m b r) i ≡ 0
unfolding divisor
divisor_behind m b r i l = rw (behind (K m) (generator (K m) (root m b) r) (16 - r) i) (get_or-eq_default (generator (K m) (root m b) r) 0 {n = i} (omega (arith, generator_length (K m) (root m b) r)))

-- a number of k bytes that are all zero
no_byte : (k y : ℕ) → y < 2 ^ (8 * k) → ((i : ℕ) → byte y i ≡ 0) → y ≡ 0
unfolding byte
no_byte zero y l h = omega arith
no_byte (suc k) y l h =
    let wide : 8 * suc k ≡ 8 * k + 8 = omega arith in
    let fits : y < 2 ^ (8 * k) * 256 = rw (wide, pow-add 2 (8 * k) 8) at l in
    let first : y % 256 ≡ 0 = sym (ap (λ (x : ℕ). x % 256) (div-one y)) ∙ h 0 in
    let rest : y / 256 ≡ 0 = no_byte k (y / 256) (omega arith) (λ i. byte_moved y 1 i ∙ h (1 + i)) in
    omega arith

pub high_none : (alone : Bool) (m b r x y : ℕ) → Enough alone r → x < 2 ^ 64 → y < 2 ^ 64 → bytes x y ≡ divisor m b r → Alone alone y
high_none alone m b r x y h lx ly e = record {
  zero_high = λ one. no_byte 8 y ly λ i.
      sym (whole_high x y i lx) ∙ sym (bytes_at x y (8 + i) lx ly) ∙ ap (λ (w : List ℕ). at w (8 + i)) e ∙ divisor_behind m b r (8 + i) (omega (arith, h.few one));
}

-- nothing is put into the second table
no_digit : (highs : List ℕ) (o from : ℕ) → Unused true highs → Digit 4 (λ b. at highs (o + b)) 16 none from
no_digit highs o from h = record { each = λ v l. (zeros 128).each (from + v) ∙ sym (comb_none 4 (λ b. at highs (o + b)) v λ b. sym (unused_at highs (o + b) h)) }

pub no_put : (highs : List ℕ) (from : ℕ) → Unused true highs → Put none none from highs
no_put highs from h = record { size = refl; kept = λ j l. refl; lows = no_digit highs 0 from h; highs = no_digit highs 4 (from + 16) h }
