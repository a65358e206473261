-- A linear map by what it gives at the powers of 2: how a table of digits is filled.
-- Assumes nothing.
use Rattle.std.specs.Prelude.{◌≡◌, refl, ℕ, zero, suc, ◌+◌, ◌/◌, ◌%◌, ◌^◌, ◌<◌}
use Rattle.std.proofs.Common.{sym, ap, ap₂, ◌∙◌, pow-suc, le_of_suc-le-suc, not-suc-le-zero, one-mul, arith}
use Rattle.std.specs.Int.Bits.{bit_xor, xor_shifted}
use Rattle.algebra.specs.Xor.{◌⊕◌, zero_l, zero_r, high, swap, comm}
use Rattle.field.specs.Field.{only}
use Rattle.field.specs.Products.{Linear, bits_sum}

-- the sum of those f i at whose place v has a 1, of its n lowest places
unfoldable pub comb : ℕ → (ℕ → ℕ) → ℕ → ℕ
comb zero f v = 0
comb (suc n) f v = only (v % 2) (f 0) ⊕ comb n (λ i. f (suc i)) (v / 2)

pub comb_linear : (n : ℕ) (f : ℕ → ℕ) → Linear (comb n f)
unfolding comb
comb_linear zero f v w = sym (zero_l 0)
comb_linear (suc n) f v w =
    ap₂ ◌⊕◌ (bits_sum v w (f 0)) (ap (comb n (λ i. f (suc i))) (high 1 v w) ∙ comb_linear n (λ i. f (suc i)) (v / 2) (w / 2))
    ∙ swap (only (v % 2) (f 0)) (only (w % 2) (f 0)) (comb n (λ i. f (suc i)) (v / 2)) (comb n (λ i. f (suc i)) (w / 2))

pub comb_zero : (n : ℕ) (f : ℕ → ℕ) → comb n f 0 ≡ 0
unfolding comb
comb_zero zero f = refl
comb_zero (suc n) f = zero_l (comb n (λ i. f (suc i)) 0) ∙ comb_zero n (λ i. f (suc i))

only_zero : (d : ℕ) → only d 0 ≡ 0
only_zero zero = refl
only_zero (suc d) = refl

-- a sum of zeros
pub comb_none : (n : ℕ) (f : ℕ → ℕ) (v : ℕ) → ((i : ℕ) → f i ≡ 0) → comb n f v ≡ 0
unfolding comb
comb_none zero f v h = refl
comb_none (suc n) f v h =
    ap₂ ◌⊕◌ (ap (only (v % 2)) (h 0) ∙ only_zero (v % 2)) (comb_none n (λ i. f (suc i)) (v / 2) λ i. h (suc i)) ∙ zero_l 0

pub comb_term : (n : ℕ) (f : ℕ → ℕ) (i : ℕ) → i < n → comb n f (2 ^ i) ≡ f i
unfolding comb
comb_term zero f i h = absurd (not-suc-le-zero h)
comb_term (suc n) f zero h = ap (λ (x : ℕ). f 0 ⊕ x) (comb_zero n (λ i. f (suc i))) ∙ zero_r (f 0)
comb_term (suc n) f (suc i) h =
    ap₂ (λ (x y : ℕ). only x (f 0) ⊕ comb n (λ i. f (suc i)) y) even half ∙ zero_l (comb n (λ i. f (suc i)) (2 ^ i))
    ∙ comb_term n (λ i. f (suc i)) i (le_of_suc-le-suc h)
  where
    even : 2 ^ suc i % 2 ≡ 0
    even = rw (pow-suc 2 i) (omega arith)

    half : 2 ^ suc i / 2 ≡ 2 ^ i
    half = rw (pow-suc 2 i) (omega arith)

only_at : (d x : ℕ) (h : ℕ → ℕ) → h 0 ≡ 0 → h (only d x) ≡ only d (h x)
only_at zero x h e = e
only_at (suc d) x h e = refl

-- through a linear map
pub comb_map : (h : ℕ → ℕ) → Linear h → h 0 ≡ 0 → (n : ℕ) (f : ℕ → ℕ) (v : ℕ) → h (comb n f v) ≡ comb n (λ i. h (f i)) v
unfolding comb
comb_map h lin e zero f v = e
comb_map h lin e (suc n) f v = lin (only (v % 2) (f 0)) (comb n (λ i. f (suc i)) (v / 2)) ∙ ap₂ ◌⊕◌ (only_at (v % 2) (f 0) h e) (comb_map h lin e n (λ i. f (suc i)) (v / 2))

-- one place more: the upper half of a table is the lower half and one sum
pub comb_upper : (n : ℕ) (f : ℕ → ℕ) (k w : ℕ) → k < n → w < 2 ^ k → comb n f (2 ^ k + w) ≡ bit_xor (comb n f w) (f k)
unfolding ◌⊕◌
comb_upper n f k w h l =
    ap (comb n f) (sym (sym (ap (λ (x : ℕ). bit_xor x w) (one-mul (2 ^ k))) ∙ xor_shifted 1 k w l ∙ ap (λ (x : ℕ). x + w) (one-mul (2 ^ k))))
    ∙ comb_linear n f (2 ^ k) w ∙ comm (comb n f (2 ^ k)) (comb n f w) ∙ ap (bit_xor (comb n f w)) (comb_term n f k h)
