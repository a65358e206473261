-- The generator in two words: one root more.
-- Assumes nothing.
use Rattle.std.specs.Prelude.{◌≡◌, refl, List, [], ◌∷◌, ◌++◌}
use Rattle.std.proofs.Math.Path.{sym, ap}
use Rattle.std.proofs.Common.{ap₂, ◌∙◌, arith, pow_pos, ext_get_or}
use Prim.Native.Nat.{ℕ, zero, suc, ◌+◌, ◌^◌, ◌<◌}
use Rattle.std.specs.Int.Bits.{bit_xor}
use Rattle.algebra.specs.Tests.{at}
use Rattle.algebra.specs.Lists.{tabulate}
use Rattle.algebra.specs.Ring.{mul_comm, mul_assoc}
use Rattle.algebra.specs.Horner.{pow}
use Rattle.algebra.specs.Register.{sweep, sweep_at, sweep_length}
use Rattle.algebra.specs.Bytes.{byte, byte_xor, whole, bytes, bytes_at, bytes_length}
use Rattle.field.specs.Elements.{wide, prod}
use Rattle.field.proofs.Elements.{K}
use Rattle.field.proofs.Doubles.{pow_below}
use Rattle.packed.specs.Moves.{Down}
use Rattle.packed.specs.Factors.{Factored, Scaled, comb_prod}
use Rattle.checks.specs.Roots.{root, root_next}
use Rattle.checks.specs.Checks.{divisor, en300421_generator, cross_generator, divisor_none, divisor_more}
use Rattle.checks.specs.Division.{no_bytes}
use Rattle.checks.specs.Starts.{divisor_below}

-- ---- x + p times a polynomial

module _ (m p a b c d s t u v : ℕ) (l : List ℕ) (la : a < 2 ^ 64) (lb : b < 2 ^ 64) (lu : u < 2 ^ 64) (lv : v < 2 ^ 64) (lp : p < 2 ^ wide m)
    (small : (j : ℕ) → byte (whole a b) j < 2 ^ wide m) (f : Factored m p l) (h : Scaled l a b c d) (k : Down c d (at l 0) s t)
    (e : whole u v ≡ bit_xor (whole a b) (whole s t)) where
  first_is : at l 0 ≡ prod m 1 p
  unfolding pow
  first_is = f.each 0 (omega arith)

  grown_at : (j : ℕ) → j < 16 → byte (whole u v) j ≡ bit_xor (at (bytes a b) j) (prod m (at (1 ∷ bytes a b) j) p)
  grown_at zero i = ap (λ (x : ℕ). byte x 0) e ∙ byte_xor (whole a b) (whole s t) 0 ∙ ap₂ bit_xor (sym (bytes_at a b 0 la lb)) (k.first ∙ first_is)
  grown_at (suc j) i =
      ap (λ (x : ℕ). byte x (suc j)) e ∙ byte_xor (whole a b) (whole s t) (suc j)
      ∙ ap₂ bit_xor (sym (bytes_at a b (suc j) la lb))
      (k.next j (omega arith) ∙ h.each j ∙ comb_prod m p l f (byte (whole a b) j) (small j) ∙ ap (λ (x : ℕ). prod m x p) (sym (bytes_at a b j la lb)))

  pub grown : bytes u v ≡ sweep (K m) p 1 (bytes a b)
  grown =
      ext_get_or 0 (bytes u v) (sweep (K m) p 1 (bytes a b)) (bytes_length u v ∙ sym (sweep_length (K m) p 1 (bytes a b) ∙ bytes_length a b)) λ i z.
      let y : i < 16 = omega (arith, bytes_length u v) in
      bytes_at u v i lu lv ∙ grown_at i y ∙ sym (sweep_at (K m) p 1 (bytes a b) i (omega (arith, bytes_length a b)))

-- ---- the loop

-- the words a and b are the polynomial with the first j roots, and l are the doubles of the next one
pub record Growing (m b j x y : ℕ) (l : List ℕ) : Type 0 where
  pub first : x < 2 ^ 64
  pub second : y < 2 ^ 64
  pub polynomial : bytes x y ≡ divisor m b j
  pub factor : Factored m (root m b j) l

pub growing_none : (m b x y : ℕ) (l : List ℕ) → x ≡ 0 → y ≡ 0 → Factored m (root m b 0) l → Growing m b 0 x y l
growing_none m b x y l ex ey f = record {
  first = rw ex (pow_pos 64);
  second = rw ey (pow_pos 64);
  polynomial = rw (ex, ey) (sym no_bytes ∙ divisor_none m b);
  factor = f;
}

pub growing_more : (m b j x y c d s t u v : ℕ) (l l' : List ℕ) → j < 16 → u < 2 ^ 64 → v < 2 ^ 64 → Growing m b j x y l → Scaled l x y c d → Down c d (at l 0) s t
    → whole u v ≡ bit_xor (whole x y) (whole s t) → Factored m (root m b (j + 1)) l' → Growing m b (j + 1) u v l'
growing_more m b j x y c d s t u v l l' n lu lv g h k e f = record {
  first = lu;
  second = lv;
  polynomial = divisor_more m b j (root m b j) (bytes x y) (bytes u v) n g.polynomial refl
      (grown m (root m b j) x y c d s t u v l g.first g.second lu lv (pow_below m (b + j))
      (λ i. rw (← bytes_at x y i g.first g.second, g.polynomial) (divisor_below m b j i)) g.factor h k e);
  factor = f;
}

-- the doubles of the next root
up_root : (m b j k : ℕ) → prod m (pow (K m) 2 (suc k)) (root m b j) ≡ prod m (pow (K m) 2 k) (root m b (j + 1))
unfolding pow
up_root m b j k =
    ap (λ (z : ℕ). prod m z (root m b j)) (mul_comm (K m) 2 (pow (K m) 2 k)) ∙ mul_assoc (K m) (pow (K m) 2 k) 2 (root m b j)
    ∙ ap (prod m (pow (K m) 2 k)) (root_next m b j (root m b j) refl)

module _ (m b j z : ℕ) (l : List ℕ) (f : Factored m (root m b j) l) (e : z ≡ prod m 2 (at l 7)) where
  next : List ℕ
  next = at l 1 ∷ at l 2 ∷ at l 3 ∷ at l 4 ∷ at l 5 ∷ at l 6 ∷ at l 7 ∷ z ∷ []

  later : (k : ℕ) → k < 8 → at next k ≡ prod m (pow (K m) 2 (suc k)) (root m b j)
  unfolding pow next
  later zero h = f.each 1 (omega arith)
  later (suc zero) h = f.each 2 (omega arith)
  later (suc (suc zero)) h = f.each 3 (omega arith)
  later (suc (suc (suc zero))) h = f.each 4 (omega arith)
  later (suc (suc (suc (suc zero)))) h = f.each 5 (omega arith)
  later (suc (suc (suc (suc (suc zero))))) h = f.each 6 (omega arith)
  later (suc (suc (suc (suc (suc (suc zero)))))) h = f.each 7 (omega arith)
  later (suc (suc (suc (suc (suc (suc (suc zero))))))) h = e ∙ ap (prod m 2) (f.each 7 (omega arith)) ∙ sym (mul_assoc (K m) 2 (pow (K m) 2 7) (root m b j))
  later (suc (suc (suc (suc (suc (suc (suc (suc k)))))))) h = absurd (omega arith)

  pub factor_next : Factored m (root m b (j + 1)) (at l 1 ∷ at l 2 ∷ at l 3 ∷ at l 4 ∷ at l 5 ∷ at l 6 ∷ at l 7 ∷ z ∷ [])
  unfolding next
  factor_next = record { each = λ k h. later k h ∙ up_root m b j k }

-- those of the first
pub factor_first : (m b x : ℕ) (l : List ℕ) → x ≡ root m b 0 → Factored m x l → Factored m (root m b 0) l
factor_first m b x l e f = rw e at f

pub first_below : (m b x : ℕ) → x ≡ root m b 0 → x < 2 ^ wide m
first_below m b x e = rw e (pow_below m (b + 0))

-- the words are the code's polynomial
-- that of EN 300 421
pub stored : (m b r : ℕ) → m ≡ 8 → b ≡ 0 → r ≡ 16 → bytes 585135094770437435 4261586547732201891 ≡ divisor m b r
unfolding divisor bytes byte whole tabulate
stored m b r em eb er = rw (em, eb, er) (ap (λ (z : List ℕ). z ++ []) (sym en300421_generator))

-- and that of the cross line
pub stored_cross : (m b r : ℕ) → m ≡ 8 → b ≡ 0 → r ≡ 4 → bytes 1081619983 0 ≡ divisor m b r
unfolding divisor bytes byte whole tabulate
stored_cross m b r em eb er = rw (em, eb, er) (ap (λ (z : List ℕ). z ++ (0 ∷ 0 ∷ 0 ∷ 0 ∷ 0 ∷ 0 ∷ 0 ∷ 0 ∷ 0 ∷ 0 ∷ 0 ∷ 0 ∷ [])) (sym cross_generator))
