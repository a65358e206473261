-- The rows of the first part's bits: the generator times 1, 2, 4, .. below 2^m.
-- Assumes nothing.
use Rattle.std.specs.Prelude.{◌≡◌, refl, List, [], ◌∷◌, ℕ, zero, suc, ◌+◌, ◌-◌, ◌^◌, ◌<◌, ◌≤◌, length, set, replicate}
use Rattle.std.proofs.Common.{ap, ap₂, ◌∙◌, sym, add-one, arith, length-set, pow_pos, get_or-set_same, get_or-set_other}
use Rattle.std.proofs.Math.Decide.{ℕ_discrete, dec_lt}
use Rattle.std.proofs.lemmas.Nat.{xor_lt}
use Rattle.algebra.specs.Tests.{at}
use Rattle.algebra.specs.Ring.{mul_left_comm}
use Rattle.algebra.specs.Horner.{pow}
use Rattle.algebra.specs.Register.{grow, generator, behind}
use Rattle.algebra.specs.Slices.{row}
use Rattle.algebra.specs.Bytes.{byte, byte_zero, whole, Holds}
use Rattle.field.specs.Elements.{wide, prod}
use Rattle.field.proofs.Elements.{K, prod_below, prod_one}
use Rattle.field.proofs.Doubles.{pow_two, prod_high}
use Rattle.packed.specs.Doubles.{DoubledPair}
use Rattle.checks.specs.Roots.{root}
use Rattle.checks.specs.Checks.{divisor}
use Rattle.checks.specs.Tables.{Basis}

-- ---- the generator's entries are elements

grow_below : (m p q : ℕ) (w : List ℕ) → ((i : ℕ) → at w i < 2 ^ wide m) → (i : ℕ) → at (grow (K m) p q w) i < 2 ^ wide m
unfolding grow
grow_below m p q [] h zero = prod_below m q p
grow_below m p q [] h (suc i) = pow_pos (wide m)
grow_below m p q (c ∷ w) h zero = xor_lt (wide m) c (prod m q p) (h 0) (prod_below m q p)
grow_below m p q (c ∷ w) h (suc i) = grow_below m p c w (λ j. h (suc j)) i

generator_below : (m : ℕ) (roots : ℕ → ℕ) (r i : ℕ) → at (generator (K m) roots r) i < 2 ^ wide m
unfolding generator
generator_below m roots zero i = pow_pos (wide m)
generator_below m roots (suc r) i = grow_below m (roots r) 1 (generator (K m) roots r) (generator_below m roots r) i

pub divisor_below : (m b r i : ℕ) → at (divisor m b r) i < 2 ^ wide m
unfolding divisor
divisor_below m b r i = rw (behind (K m) (generator (K m) (root m b) r) (16 - r) i) (generator_below m (root m b) r i)

-- ---- the loop

-- every entry is an element; every entry is 0
pub record Elements (m : ℕ) (g : List ℕ) : Type 0 where
  pub below : (j : ℕ) → at g j < 2 ^ wide m

pub record Zeros (p : List ℕ) : Type 0 where
  pub each : (b : ℕ) → at p b ≡ 0

pub divisor_elements : (m b r : ℕ) (g : List ℕ) → g ≡ divisor m b r → Elements m g
divisor_elements m b r g e = record { below = λ j. rw e (divisor_below m b r j) }

pub zeros : (n : ℕ) → Zeros (replicate n 0)
zeros n = record { each = behind_none n }
  where
    behind_none : (k i : ℕ) → at (replicate k 0) i ≡ 0
    behind_none zero i = refl
    behind_none (suc k) zero = refl
    behind_none (suc k) (suc i) = behind_none k i

-- the pair c, d is the generator times a^n; the first n rows stand, and the others are zero
pub record Doubling (m : ℕ) (g : List ℕ) (n c d : ℕ) (p q : List ℕ) : Type 0 where
  pub size_l : length p ≡ 8
  pub size_h : length q ≡ 8
  pub first : c < 2 ^ 64
  pub small : (b : ℕ) → at p b < 2 ^ 64
  pub next : (j : ℕ) → byte (whole c d) j ≡ prod m (at g j) (pow (K m) 2 n)
  pub done : (b j : ℕ) → b < n → byte (whole (at p b) (at q b)) j ≡ row (K m) (at g) 0 (2 ^ b) j
  pub todo : (b : ℕ) → n ≤ b → whole (at p b) (at q b) ≡ 0

pub doubling_none : (m : ℕ) (g : List ℕ) (c d : ℕ) (p q : List ℕ) → c < 2 ^ 64 → Elements m g → Holds c d g → length p ≡ 8 → length q ≡ 8 → Zeros p → Zeros q → Doubling m g 0 c d p q
unfolding pow whole
doubling_none m g c d p q lc below e lp lq zp zq = record {
  size_l = lp;
  size_h = lq;
  first = lc;
  small = λ b. rw (zp.each b) (pow_pos 64);
  next = λ j. e.each j ∙ sym (prod_one m (at g j) (below.below j));
  done = λ b j l. absurd (omega arith);
  todo = λ b l. ap₂ whole (zp.each b) (zq.each b);
}

pub doubling_more : (m : ℕ) (g : List ℕ) (n c d e f : ℕ) (p q : List ℕ) → n < wide m → n < 8 → e < 2 ^ 64 → Doubling m g n c d p q → DoubledPair m c d e f
    → Doubling m g (n + 1) e f (set p n c) (set q n d)
unfolding pow row
doubling_more m g n c d e f p q l k le h twice = record {
  size_l = length-set p n c ∙ h.size_l;
  size_h = length-set q n d ∙ h.size_h;
  first = le;
  small = λ b. elim (ℕ_discrete b n) [
    | yes y ↦ rw (y, get_or-set_same p n c 0 (omega (arith, h.size_l))) h.first
    | no y ↦ rw (get_or-set_other p n b c 0 y) (h.small b)
  ];
  next = λ j. twice.each j ∙ ap (prod m 2) (h.next j) ∙ mul_left_comm (K m) 2 (at g j) (pow (K m) 2 n) ∙ ap (λ (z : ℕ). prod m (at g j) (pow (K m) 2 z)) (sym (add-one n));
  done = λ b j a. elim (ℕ_discrete b n) [
    | yes y ↦ rw (y, get_or-set_same p n c 0 (omega (arith, h.size_l)), get_or-set_same q n d 0 (omega (arith, h.size_h))) (h.next j ∙ ap (prod m (at g j)) (pow_two m n l))
    | no y ↦ rw (get_or-set_other p n b c 0 y, get_or-set_other q n b d 0 y) (h.done b j (omega arith))
  ];
  todo = λ b a. rw (get_or-set_other p n b c 0 (omega arith), get_or-set_other q n b d 0 (omega arith)) (h.todo b (omega arith));
}

pub doubling_all : (m : ℕ) (g : List ℕ) (n c d : ℕ) (p q : List ℕ) → wide m ≤ n → Doubling m g n c d p q → Basis m g 0 p q
unfolding row
doubling_all m g n c d p q l h = record {
  size_l = h.size_l;
  size_h = h.size_h;
  small = h.small;
  each = λ b j k. elim (dec_lt b n) [
    | yes y ↦ h.done b j y
    | no y ↦ ap (λ (z : ℕ). byte z j) (h.todo b (omega arith)) ∙ byte_zero j ∙ sym (prod_high m (at g j) b (omega arith))
  ];
}
