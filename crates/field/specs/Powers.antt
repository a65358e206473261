-- A table of the powers of a, whose rule is a test over the whole table. From that alone it follows that a has the order 2^m - 1, that no power
-- comes twice, and, since there are as many powers as elements but 0, that each of these is one. So its power by 2^m - 2 is its inverse.
-- Assumes nothing.
use Rattle.std.specs.Prelude.{◌≡◌, ◌≢◌, Bool, true, false, ◌&&◌, not, List, [], ◌∷◌, T, eqb, length, get_or}
use Rattle.std.proofs.Math.Path.{refl, sym, ap}
use Rattle.std.proofs.Common.{◌∙◌, subst, add-zero, add-suc, zero-add, suc-add, le_of_suc-le-suc, not-suc-le-zero, div-add-mod', suc-mul, zero-mul, arith, eq-eqb, eqb→eq}
use Prim.Native.Nat.{ℕ, zero, suc, ◌+◌, ◌-◌, ◌*◌, ◌/◌, ◌%◌, ◌^◌, ◌<◌, ◌≤◌}
use Rattle.std.proofs.Math.Decide.{ℕ_discrete, dec_lt}
use Rattle.std.proofs.lemmas.Bool.{not-true}
use Rattle.std.proofs.Math.Pow.{pow-lt}
use Rattle.algebra.specs.Sets.{Reached, onto}
use Rattle.algebra.specs.Tests.{and_left, and_right, passed}
use Rattle.field.specs.Field.{product, power}
use Rattle.field.specs.Products.{product_zero_l, product_one}
use Rattle.field.specs.Raised.{raised, raised_below, raised_add, raised_mul}
use Rattle.field.specs.Tables.{every, every_at}

-- the rule of a table of powers: the first entry is x, each other is the product of 2 and the one before, and 2 times the last is 1
abbrev pub doubles : ℕ → ℕ → ℕ → List ℕ → Bool
doubles m p x [] = eqb x 1
doubles m p x (y ∷ ys) = eqb x y && doubles m p (product m p 2 y) ys

-- and of each entry at its place k: only the first is 1
abbrev pub one_first : ℕ → ℕ → Bool
one_first zero y = true
one_first (suc k) y = not (eqb y 1)

module _ (m p : ℕ) where
  next : (i y : ℕ) → T (eqb (power m p i) y) → product m p 2 y ≡ power m p (suc i)
  unfolding power
  next i y t = ap (product m p 2) (sym (eqb→eq (power m p i) y t))

  doubles_at : (ps : List ℕ) (i : ℕ) → T (doubles m p (power m p i) ps) → (k : ℕ) → k < length ps → get_or ps k 0 ≡ power m p (i + k)
  doubles_at [] i t k h = absurd (not-suc-le-zero h)
  doubles_at (y ∷ ys) i t zero h =
      sym (eqb→eq (power m p i) y (and_left (eqb (power m p i) y) (doubles m p (product m p 2 y) ys) t)) ∙ ap (power m p) (sym (add-zero i))
  doubles_at (y ∷ ys) i t (suc k) h =
      doubles_at ys (suc i) (subst (λ (z : ℕ). T (doubles m p z ys)) (next i y (and_left a b t)) (and_right a b t)) k (le_of_suc-le-suc h)
      ∙ ap (power m p) (suc-add i k ∙ sym (add-suc i k))
    where
      a : Bool
      a = eqb (power m p i) y

      b : Bool
      b = doubles m p (product m p 2 y) ys

  doubles_end : (ps : List ℕ) (i : ℕ) → T (doubles m p (power m p i) ps) → power m p (i + length ps) ≡ 1
  doubles_end [] i t = ap (power m p) (add-zero i) ∙ eqb→eq (power m p i) 1 t
  doubles_end (y ∷ ys) i t =
      ap (power m p) (add-suc i (length ys) ∙ sym (suc-add i (length ys)))
      ∙ doubles_end ys (suc i) (subst (λ (z : ℕ). T (doubles m p z ys)) (next i y (and_left a b t)) (and_right a b t))
    where
      a : Bool
      a = eqb (power m p i) y

      b : Bool
      b = doubles m p (product m p 2 y) ys

-- a field's polynomial and its table of powers, with its rule
pub record Rules (m p : ℕ) (ps : List ℕ) : Type 0 where
  pub degree : p / 2 ^ m ≡ 1
  pub room : 1 < m
  pub sized : length ps ≡ 2 ^ m - 1
  pub doubled : T (doubles m p 1 ps)
  pub once : T (every one_first 0 ps)

module _ {m p : ℕ} {ps : List ℕ} (t : Rules m p ps) where
  open t use {degree, room, sized, doubled, once}

  -- how many powers there are
  abbrev order : ℕ
  order = 2 ^ m - 1

  -- ---- the powers of a are those of the element 2

  power_raised : (k : ℕ) → power m p k ≡ raised m p 2 k
  unfolding power raised
  power_raised zero = refl
  power_raised (suc k) = ap (product m p 2) (power_raised k)

  pub power_below : (k : ℕ) → power m p k < 2 ^ m
  power_below k = rw (power_raised k) (raised_below m p degree room 2 k)

  pub a_below : 2 < 2 ^ m
  a_below = pow-lt {i = 1} {j = m} room

  power_mul : (i j : ℕ) → product m p (power m p i) (power m p j) ≡ power m p (i + j)
  power_mul i j = rw (power_raised i, power_raised j, power_raised (i + j)) (raised_add m p degree room 2 a_below i j)

  raised_power : (j k : ℕ) → raised m p (power m p j) k ≡ power m p (j * k)
  raised_power j k = rw (power_raised j, power_raised (j * k)) (raised_mul m p degree room 2 a_below j k)

  -- ---- the order of a

  power_order : power m p order ≡ 1
  unfolding power
  power_order = ap (power m p) (sym sized ∙ sym (zero-add (length ps))) ∙ doubles_end m p ps 0 doubled

  power_turns : (q k : ℕ) → power m p (q * order + k) ≡ power m p k
  power_turns zero k = ap (power m p) (ap (λ (z : ℕ). z + k) (zero-mul order) ∙ zero-add k)
  power_turns (suc q) k =
      ap (power m p) (omega (arith, suc-mul q order)) ∙ sym (power_mul order (q * order + k))
      ∙ ap (λ (z : ℕ). product m p z (power m p (q * order + k))) power_order
      ∙ product_one m p (power m p (q * order + k)) (omega arith) (power_below (q * order + k)) ∙ power_turns q k

  pub power_mod : (k : ℕ) → power m p (k % order) ≡ power m p k
  power_mod k = sym (power_turns (k / order) (k % order)) ∙ ap (power m p) (div-add-mod' k order)

  pub powers_at : (k : ℕ) → k < order → get_or ps k 0 ≡ power m p k
  unfolding power
  powers_at k h = doubles_at m p ps 0 doubled k (omega (arith, sized)) ∙ ap (power m p) (zero-add k)

  -- ---- no power comes twice

  pub power_not_one : (k : ℕ) → 0 < k → k < order → power m p k ≢ 1
  power_not_one zero h l e = not-suc-le-zero h
  power_not_one (suc k) h l e =
      let first : eqb (get_or ps (suc k) 0) 1 ≡ false = not-true _ (passed _ (every_at one_first ps once (suc k) (omega (arith, sized)))) in
      let one : eqb (get_or ps (suc k) 0) 1 ≡ true = eq-eqb _ _ (powers_at (suc k) l ∙ e) in
      let clash : ◌≡◌ {A = ℕ} 0 1 = cc in
      omega arith

  -- what a power lacks of the order is the power that it becomes 1 with
  power_rest : (k : ℕ) → k ≤ order → product m p (power m p k) (power m p (order - k)) ≡ 1
  power_rest k l = power_mul k (order - k) ∙ ap (power m p) (omega arith) ∙ power_order

  ahead : (i d : ℕ) → 0 < d → i + d < order → power m p i ≢ power m p (i + d)
  ahead i d h l e =
      power_not_one d h (omega arith)
      (sym (power_turns 1 d) ∙ ap (power m p) (omega arith) ∙ sym (power_mul (order - i) (i + d)) ∙ ap (product m p (power m p (order - i))) (sym e)
      ∙ power_mul (order - i) i ∙ ap (power m p) (omega arith) ∙ power_order)

  power_once : (i j : ℕ) → i < order → j < order → power m p i ≡ power m p j → i ≡ j
  power_once i j a b e = elim (dec_lt i j) [
    | yes l ↦ let there : j ≡ i + (j - i) = omega arith in absurd (ahead i (j - i) (omega arith) (omega arith) (e ∙ ap (power m p) there))
    | no n ↦ elim (dec_lt j i) [
      | yes l ↦ let there : i ≡ j + (i - j) = omega arith in absurd (ahead j (i - j) (omega arith) (omega arith) (sym e ∙ ap (power m p) there))
      | no k ↦ omega arith
    ]
  ]

  -- ---- every element but 0 is a power: there are as many

  power_some : (k : ℕ) → k < order → 0 < power m p k
  power_some k l = elim (ℕ_discrete (power m p k) 0) [
    | yes e ↦
        let z : product m p 0 (power m p (order - k)) ≡ 1 = rw e at (power_rest k (omega arith)) in
        absurd (omega (arith, product_zero_l m p (power m p (order - k))))
    | no ne ↦ omega arith
  ]

  is_power : (x : ℕ) → 0 < x → x < 2 ^ m → Reached (power m p) order x
  is_power x h l =
      let small : (k : ℕ) → k < order → power m p k - 1 < order = λ k u. omega (arith, power_some k u, power_below k) in
      let apart : (i j : ℕ) → i < order → j < order → power m p i - 1 ≡ power m p j - 1 → i ≡ j =
      λ i j u v e. power_once i j u v (omega (arith, power_some i u, power_some j v)) in
      let (k, u, e) = onto (λ (k : ℕ). power m p k - 1) order small apart (x - 1) (omega arith) in
      (k, u, omega (arith, power_some k u))

  -- ---- so x by itself 2^m - 1 times is 1

  pub raised_inverse : (x : ℕ) → 0 < x → x < 2 ^ m → product m p x (raised m p x (2 ^ m - 2)) ≡ 1
  unfolding raised power
  raised_inverse x h l =
      let (j, u, e) = is_power x h l in
      let whole : suc (2 ^ m - 2) ≡ order = omega (arith, a_below) in
      ap (raised m p x) whole ∙ rw (← e) (raised_power j order ∙ ap (power m p) (sym (add-zero (j * order))) ∙ power_turns j 0)
