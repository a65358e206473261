-- The laws of the product: linear in each factor, commutative, associative, with 1 as its one; for every m and every p of degree m.
-- Assumes nothing.
use Rattle.std.specs.Prelude.{◌≡◌, ◌⊎◌}
use Rattle.std.proofs.Math.Path.{refl, ap}
use Rattle.std.proofs.Common.{sym, ap₂, ◌∙◌, subst, inl, inr, mul_assoc, mul_comm, mul_right_comm, add-suc, suc-add, add-zero, zero-add, mul-one, mod-lt, lt_of_lt_of_le, lt_of_le_of_lt, le_of_suc-le-suc, not-suc-le-zero, le-add_right, mul-lt-mul_of_pos_right, eq-or-lt_of_le, zero-mul, div-lt_iff_lt-mul, one-mul, arith, pow_pos, pow_mono, pow-add, shl_lt}
use Prim.Native.Nat.{ℕ, zero, suc, ◌+◌, ◌*◌, ◌/◌, ◌%◌, ◌^◌, ◌≤◌, ◌<◌}
use Rattle.std.proofs.Math.Nat.{pow-suc, div-eq_of_lt, mul-div-mul_right, zero-div}
use Rattle.std.proofs.Math.Arith.{lt-one}
use Rattle.std.proofs.Math.Pow.{pow-lt, split}
use Rattle.std.specs.Int.Bits.{xor_shifted}
use Rattle.std.proofs.lemmas.Nat.{xor_comm}
use Rattle.algebra.specs.Xor.{◌⊕◌, on_bit, zero_l, zero_r, self, fits, high, low, up, swap}
use Rattle.field.specs.Field.{only, times, reduce, product}

-- ---- the product of polynomials is linear in each factor

-- a term times a sum, and a sum of terms
pub only_sum : (d b c : ℕ) → only d (b ⊕ c) ≡ only d b ⊕ only d c
only_sum zero b c = sym (zero_l 0)
only_sum (suc d) b c = refl

bits_both : (a b c : ℕ) → only (a % 2 ⊕ b % 2) c ≡ only (a % 2) c ⊕ only (b % 2) c
unfolding ◌⊕◌
bits_both a b c =
    on_bit (λ (x : ℕ). only (x ⊕ b % 2) c ≡ only x c ⊕ only (b % 2) c) refl
    (on_bit (λ (y : ℕ). only (1 ⊕ y) c ≡ only 1 c ⊕ only y c) (sym (zero_r c)) (sym (self c)) b) a

pub bits_sum : (a b c : ℕ) → only ((a ⊕ b) % 2) c ≡ only (a % 2) c ⊕ only (b % 2) c
bits_sum a b c = ap (λ (x : ℕ). only x c) (low 1 a b) ∙ bits_both a b c

pub times_right : (n a b c : ℕ) → times n a (b ⊕ c) ≡ times n a b ⊕ times n a c
unfolding times
times_right zero a b c = sym (zero_l 0)
times_right (suc n) a b c =
    ap₂ ◌⊕◌ (only_sum (a % 2) b c) (ap (times n (a / 2)) (up 1 b c) ∙ times_right n (a / 2) (b * 2) (c * 2))
    ∙ swap (only (a % 2) b) (only (a % 2) c) (times n (a / 2) (b * 2)) (times n (a / 2) (c * 2))

pub times_left : (n a b c : ℕ) → times n (a ⊕ b) c ≡ times n a c ⊕ times n b c
unfolding times
times_left zero a b c = sym (zero_l 0)
times_left (suc n) a b c =
    ap₂ ◌⊕◌ (bits_sum a b c) (ap (λ (x : ℕ). times n x (c * 2)) (high 1 a b) ∙ times_left n (a / 2) (b / 2) (c * 2))
    ∙ swap (only (a % 2) c) (only (b % 2) c) (times n (a / 2) (c * 2)) (times n (b / 2) (c * 2))

times_zero : (n b : ℕ) → times n 0 b ≡ 0
unfolding times
times_zero zero b = refl
times_zero (suc n) b = zero_l (times n 0 (b * 2)) ∙ times_zero n (b * 2)

-- by one term
pub times_term : (n i b : ℕ) → i < n → times n (2 ^ i) b ≡ b * 2 ^ i
unfolding times
times_term zero i b h = absurd (not-suc-le-zero h)
times_term (suc n) zero b h = ap (λ (x : ℕ). b ⊕ x) (times_zero n (b * 2)) ∙ zero_r b ∙ sym (mul-one b)
times_term (suc n) (suc i) b h =
    ap₂ (λ (x y : ℕ). only x b ⊕ times n y (b * 2)) even half ∙ zero_l (times n (2 ^ i) (b * 2))
    ∙ times_term n i (b * 2) (le_of_suc-le-suc h) ∙ mul_assoc b 2 (2 ^ i) ∙ ap (λ (x : ℕ). b * x) (mul_comm 2 (2 ^ i) ∙ sym (pow-suc 2 i))
  where
    even : 2 ^ suc i % 2 ≡ 0
    even = rw (pow-suc 2 i) (omega arith)

    half : 2 ^ suc i / 2 ≡ 2 ^ i
    half = rw (pow-suc 2 i) (omega arith)

only_below : (k d : ℕ) {b : ℕ} → b < 2 ^ k → only d b < 2 ^ k
only_below k zero h = pow_pos k
only_below k (suc d) h = h

pub times_below : (n k a : ℕ) {b : ℕ} → b < 2 ^ k → times n a b < 2 ^ (k + n)
unfolding times
times_below zero k a h = pow_pos (k + 0)
times_below (suc n) k a {b} h =
    fits (k + suc n)
    (lt_of_lt_of_le (only_below k (a % 2) h) (pow_mono (le-add_right k (suc n))))
    (subst (λ (x : ℕ). times n (a / 2) (b * 2) < 2 ^ x) (suc-add k n ∙ sym (add-suc k n))
    (times_below n (suc k) (a / 2) (rw (pow-suc 2 k) (mul-lt-mul_of_pos_right h (pow_pos 1)))))

-- ---- the remainder

module _ (m p : ℕ) where
  pub reduce_sum : (k x y : ℕ) → reduce m p k (x ⊕ y) ≡ reduce m p k x ⊕ reduce m p k y
  unfolding reduce
  reduce_sum zero x y = refl
  reduce_sum (suc k) x y =
      ap (reduce m p k) (ap (λ (z : ℕ). (x ⊕ y) ⊕ z) (ap (λ (z : ℕ). only (z % 2) (p * 2 ^ k)) (high (m + k) x y)
      ∙ bits_sum (x / 2 ^ (m + k)) (y / 2 ^ (m + k)) (p * 2 ^ k)) ∙ swap x y (only (x / 2 ^ (m + k) % 2) (p * 2 ^ k)) (only (y / 2 ^ (m + k) % 2) (p * 2 ^ k)))
      ∙ reduce_sum k (x ⊕ only (x / 2 ^ (m + k) % 2) (p * 2 ^ k)) (y ⊕ only (y / 2 ^ (m + k) % 2) (p * 2 ^ k))

  -- where there is no term at the highest place, nothing is added
  reduce_skip : (k : ℕ) {x : ℕ} → x < 2 ^ (m + k) → reduce m p (suc k) x ≡ reduce m p k x
  unfolding reduce
  reduce_skip k {x} h = ap (λ (z : ℕ). reduce m p k (x ⊕ only (z % 2) (p * 2 ^ k))) (div-eq_of_lt h) ∙ ap (reduce m p k) (zero_r x)

  reduce_small : (k : ℕ) {x : ℕ} → x < 2 ^ m → reduce m p k x ≡ x
  unfolding reduce
  reduce_small zero h = refl
  reduce_small (suc k) h = reduce_skip k (lt_of_lt_of_le h (pow_mono (le-add_right m k))) ∙ reduce_small k h

  reduce_more : (j k : ℕ) {x : ℕ} → x < 2 ^ (m + k) → reduce m p (j + k) x ≡ reduce m p k x
  reduce_more zero k {x} h = ap (λ (z : ℕ). reduce m p z x) (zero-add k)
  reduce_more (suc j) k {x} h =
      ap (λ (z : ℕ). reduce m p z x) (suc-add j k)
      ∙ reduce_skip (j + k) (lt_of_lt_of_le h (pow_mono (omega arith))) ∙ reduce_more j k h

no_high : (k n : ℕ) → n / 2 ^ k ≡ 0 → n < 2 ^ k
no_high k n e = rw (one-mul (2 ^ k)) at ((div-lt_iff_lt-mul {x = n} {y = 1} (pow_pos k)).0 (omega (arith, e)))

-- ---- where p has the degree m

module _ (m p : ℕ) (deg : p / 2 ^ m ≡ 1) where
  -- the highest term of p, moved up
  top : (k : ℕ) → p * 2 ^ k / 2 ^ (m + k) ≡ 1
  top k = ap (λ (z : ℕ). p * 2 ^ k / z) (pow-add 2 m k) ∙ mul-div-mul_right p (2 ^ m) (pow_pos k) ∙ deg

  p_below : p < 2 ^ suc m
  p_below = rw (pow-suc 2 m) (rw (mul_comm (2 ^ m) 2) ((div-lt_iff_lt-mul (pow_pos m)).0 (omega (arith, deg))))

  fall : (k d : ℕ) → d < 2 → d ⊕ only (d % 2) (p * 2 ^ k) / 2 ^ (m + k) ≡ 0
  fall k zero h = ap (λ (z : ℕ). 0 ⊕ z) (zero-div (2 ^ (m + k))) ∙ self 0
  fall k (suc zero) h = ap (λ (z : ℕ). 1 ⊕ z) (top k) ∙ self 1
  fall k (suc (suc d)) h = absurd (not-suc-le-zero (le_of_suc-le-suc (le_of_suc-le-suc h)))

  pub reduce_below : (k : ℕ) {x : ℕ} → x < 2 ^ (m + k) → reduce m p k x < 2 ^ m
  unfolding reduce
  reduce_below zero {x} h = rw (add-zero m) at h
  reduce_below (suc k) {x} h =
      reduce_below k (no_high (m + k) (x ⊕ only (x / 2 ^ (m + k) % 2) (p * 2 ^ k)) zeroed)
    where
      small : x / 2 ^ (m + k) < 2
      small = (div-lt_iff_lt-mul (pow_pos (m + k))).1 (rw (mul_comm 2 (2 ^ (m + k))) (rw (add-suc m k, pow-suc 2 (m + k)) at h))

      zeroed : (x ⊕ only (x / 2 ^ (m + k) % 2) (p * 2 ^ k)) / 2 ^ (m + k) ≡ 0
      zeroed = high (m + k) x (only (x / 2 ^ (m + k) % 2) (p * 2 ^ k)) ∙ fall k (x / 2 ^ (m + k)) small

  -- p's multiples leave nothing
  kill : (k i : ℕ) → i < k → reduce m p k (p * 2 ^ i) ≡ 0
  unfolding reduce
  kill zero i h = absurd (not-suc-le-zero h)
  kill (suc k) i h = pick (kill k i) (eq-or-lt_of_le (le_of_suc-le-suc h))
    where
      lower : i < k → reduce m p (suc k) (p * 2 ^ i) ≡ reduce m p k (p * 2 ^ i)
      lower l = reduce_skip m p k (lt_of_lt_of_le (shl_lt (suc m) i p_below) (pow_mono (omega arith)))

      same : reduce m p (suc k) (p * 2 ^ k) ≡ 0
      same =
          ap (λ (z : ℕ). reduce m p k (p * 2 ^ k ⊕ only (z % 2) (p * 2 ^ k))) (top k) ∙ ap (reduce m p k) (self (p * 2 ^ k))
          ∙ reduce_small m p k (pow_pos m)

      pick : (i < k → reduce m p k (p * 2 ^ i) ≡ 0) → (i ≡ k) ⊎ (i < k) → reduce m p (suc k) (p * 2 ^ i) ≡ 0
      pick ih (inl e) = ap (λ (z : ℕ). reduce m p (suc k) (p * 2 ^ z)) e ∙ same
      pick ih (inr l) = lower l ∙ ih l

  kill_term : (K i d : ℕ) → i < K → reduce m p K (only d (p * 2 ^ i)) ≡ 0
  kill_term K i zero h = reduce_small m p K (pow_pos m)
  kill_term K i (suc d) h = kill K i h

  only_up : (d x j : ℕ) → only d x * 2 ^ j ≡ only d (x * 2 ^ j)
  only_up zero x j = zero-mul (2 ^ j)
  only_up (suc d) x j = refl

  -- a remainder may be taken before
  absorb : (K j k x : ℕ) → k + j ≤ K → reduce m p K (reduce m p k x * 2 ^ j) ≡ reduce m p K (x * 2 ^ j)
  unfolding reduce
  absorb K j zero x h = refl
  absorb K j (suc k) x h =
      absorb K j k (x ⊕ only d (p * 2 ^ k)) (omega arith)
      ∙ ap (reduce m p K) (up j x (only d (p * 2 ^ k)))
      ∙ reduce_sum m p K (x * 2 ^ j) (only d (p * 2 ^ k) * 2 ^ j)
      ∙ ap (λ (z : ℕ). reduce m p K (x * 2 ^ j) ⊕ z) gone
      ∙ zero_r (reduce m p K (x * 2 ^ j))
    where
      d : ℕ
      d = x / 2 ^ (m + k) % 2

      gone : reduce m p K (only d (p * 2 ^ k) * 2 ^ j) ≡ 0
      gone =
          ap (reduce m p K) (only_up d (p * 2 ^ k) j ∙ ap (only d) (mul_assoc p (2 ^ k) (2 ^ j) ∙ ap (λ (z : ℕ). p * z) (sym (pow-add 2 k j))))
          ∙ kill_term K (k + j) d (omega arith)

-- ---- two linear maps that agree at the powers of 2 agree

abbrev pub Linear : (ℕ → ℕ) → Type 0
Linear f = (x y : ℕ) → f (x ⊕ y) ≡ f x ⊕ f y

pub null : (f : ℕ → ℕ) → Linear f → f 0 ≡ 0
null f h = ap f (sym (zero_l 0)) ∙ h 0 0 ∙ self (f 0)

top_split : (m x : ℕ) → x < 2 ^ suc m → (x < 2 ^ m) ⊎ (x ≡ 2 ^ m ⊕ x % 2 ^ m)
unfolding ◌⊕◌
top_split m x h = go (x / 2 ^ m) ((div-lt_iff_lt-mul (pow_pos m)).1 (rw (mul_comm 2 (2 ^ m)) (rw (pow-suc 2 m) at h))) refl
  where
    go : (d : ℕ) → d < 2 → x / 2 ^ m ≡ d → (x < 2 ^ m) ⊎ (x ≡ 2 ^ m ⊕ x % 2 ^ m)
    go zero l e = inl (no_high m x e)
    go (suc zero) l e =
        inr (sym (split x m) ∙ ap (λ (z : ℕ). z * 2 ^ m + x % 2 ^ m) e ∙ sym (xor_shifted 1 m (x % 2 ^ m) (mod-lt x (pow_pos m)))
        ∙ ap (λ (z : ℕ). z ⊕ x % 2 ^ m) (one-mul (2 ^ m)))
    go (suc (suc d)) l e = absurd (not-suc-le-zero (le_of_suc-le-suc (le_of_suc-le-suc l)))

module _ (f g : ℕ → ℕ) (hf : Linear f) (hg : Linear g) where
  pub agree : (m : ℕ) → ((i : ℕ) → i < m → f (2 ^ i) ≡ g (2 ^ i)) → (x : ℕ) → x < 2 ^ m → f x ≡ g x
  agree zero e x h = ap f (lt-one h) ∙ null f hf ∙ sym (ap g (lt-one h) ∙ null g hg)
  agree (suc m) e x h = pick (agree m (λ i l. e i (omega arith))) (top_split m x h)
    where
      pick : ((y : ℕ) → y < 2 ^ m → f y ≡ g y) → (x < 2 ^ m) ⊎ (x ≡ 2 ^ m ⊕ x % 2 ^ m) → f x ≡ g x
      pick ih (inl l) = ih x l
      pick ih (inr q) =
          ap f q ∙ hf (2 ^ m) (x % 2 ^ m) ∙ ap₂ ◌⊕◌ (e m (omega arith)) (ih (x % 2 ^ m) (mod-lt x (pow_pos m)))
          ∙ sym (ap g q ∙ hg (2 ^ m) (x % 2 ^ m))

parts : (a : ℕ) → a ≡ a % 2 ⊕ a / 2 * 2
unfolding ◌⊕◌
parts a = sym (split a 1) ∙ sym (xor_shifted (a / 2) 1 (a % 2) (mod-lt a (pow_pos 1))) ∙ xor_comm (a / 2 * 2) (a % 2)

-- ---- the product of the field

module _ (m p : ℕ) where
  pub product_left : (c : ℕ) → Linear (λ a. product m p a c)
  unfolding product
  product_left c a b = ap (reduce m p m) (times_left m a b c) ∙ reduce_sum m p m (times m a c) (times m b c)

  pub product_right : (a : ℕ) → Linear (product m p a)
  unfolding product
  product_right a b c = ap (reduce m p m) (times_right m a b c) ∙ reduce_sum m p m (times m a b) (times m a c)

  pub product_zero_l : (b : ℕ) → product m p 0 b ≡ 0
  product_zero_l b = null (λ a. product m p a b) (product_left b)

  -- by one term
  product_term : (i b : ℕ) → i < m → product m p (2 ^ i) b ≡ reduce m p m (b * 2 ^ i)
  unfolding product
  product_term i b h = ap (reduce m p m) (times_term m i b h)

  pub product_one : (b : ℕ) → 0 < m → b < 2 ^ m → product m p 1 b ≡ b
  product_one b h l = product_term 0 b h ∙ ap (reduce m p m) (mul-one b) ∙ reduce_small m p m l

  pub product_comm : (a b : ℕ) → a < 2 ^ m → b < 2 ^ m → product m p a b ≡ product m p b a
  product_comm a b ha hb =
      agree (λ x. product m p x b) (λ x. product m p b x) (product_left b) (product_right b) m
      (λ i hi. agree (λ y. product m p (2 ^ i) y) (λ y. product m p y (2 ^ i)) (product_right (2 ^ i)) (product_left (2 ^ i)) m
      (λ j hj. product_term i (2 ^ j) hi ∙ ap (reduce m p m) (mul_comm (2 ^ j) (2 ^ i)) ∙ sym (product_term j (2 ^ i) hj)) b hb) a ha

  module _ (deg : p / 2 ^ m ≡ 1) where
    pub product_below : (a : ℕ) {b : ℕ} → b < 2 ^ m → product m p a b < 2 ^ m
    unfolding product
    product_below a h = reduce_below m p deg m (times_below m m a h)

    twice : (b i k : ℕ) → i < m → k < m → b < 2 ^ m → reduce m p m (reduce m p m (b * 2 ^ i) * 2 ^ k) ≡ reduce m p (m + m) (b * 2 ^ i * 2 ^ k)
    twice b i k hi hk hb =
        sym (reduce_more m p m m (lt_of_lt_of_le (shl_lt m k (reduce_below m p deg m wide)) (pow_mono (omega arith))))
        ∙ absorb m p deg (m + m) k m (b * 2 ^ i) (omega arith)
      where
        wide : b * 2 ^ i < 2 ^ (m + m)
        wide = lt_of_lt_of_le (shl_lt m i hb) (pow_mono (omega arith))

    pub product_assoc : (a b c : ℕ) → a < 2 ^ m → b < 2 ^ m → c < 2 ^ m → product m p (product m p a b) c ≡ product m p a (product m p b c)
    product_assoc a b c ha hb hc =
        agree (λ x. product m p (product m p x b) c) (λ x. product m p x (product m p b c))
        (λ x y. ap (λ (z : ℕ). product m p z c) (product_left b x y) ∙ product_left c (product m p x b) (product m p y b))
        (product_left (product m p b c)) m (λ i hi. at_term i hi) a ha
      where
        terms : (i k : ℕ) → i < m → k < m → product m p (product m p (2 ^ i) b) (2 ^ k) ≡ product m p (2 ^ i) (product m p b (2 ^ k))
        terms i k hi hk =
            product_comm (product m p (2 ^ i) b) (2 ^ k) (product_below (2 ^ i) hb) (pow-lt hk)
            ∙ product_term k (product m p (2 ^ i) b) hk
            ∙ ap (λ (z : ℕ). reduce m p m (z * 2 ^ k)) (product_term i b hi)
            ∙ twice b i k hi hk hb
            ∙ ap (reduce m p (m + m)) (mul_right_comm b (2 ^ i) (2 ^ k))
            ∙ sym (twice b k i hk hi hb)
            ∙ ap (λ (z : ℕ). reduce m p m (z * 2 ^ i)) (sym (product_term k b hk) ∙ product_comm (2 ^ k) b (pow-lt hk) hb)
            ∙ sym (product_term i (product m p b (2 ^ k)) hi)

        at_term : (i : ℕ) → i < m → product m p (product m p (2 ^ i) b) c ≡ product m p (2 ^ i) (product m p b c)
        at_term i hi =
            agree (product m p (product m p (2 ^ i) b)) (λ z. product m p (2 ^ i) (product m p b z)) (product_right (product m p (2 ^ i) b))
            (λ x y. ap (product m p (2 ^ i)) (product_right b x y) ∙ product_right (2 ^ i) (product m p b x) (product m p b y))
            m (λ k hk. terms i k hi hk) c hc

    -- a bit of the first factor at a time: the rest is multiplied by twice the second
    pub product_step : (a b : ℕ) → 1 < m → a < 2 ^ m → b < 2 ^ m → product m p a b ≡ only (a % 2) b ⊕ product m p (a / 2) (product m p 2 b)
    product_step a b two ha hb =
        ap (λ (z : ℕ). product m p z b) (parts a) ∙ product_left b (a % 2) (a / 2 * 2)
        ∙ ap₂ ◌⊕◌ (on_bit (λ (d : ℕ). product m p d b ≡ only d b) (product_zero_l b) (product_one b (omega arith) hb) a) (doubled ∙ moved)
      where
        half : a / 2 < 2 ^ m
        half = omega arith

        doubled : product m p (a / 2 * 2) b ≡ product m p (product m p (a / 2) 2) b
        doubled =
            ap (λ (z : ℕ). product m p z b)
            (sym (product_comm (a / 2) 2 half (pow-lt {i = 1} {j = m} two) ∙ product_term 1 (a / 2) two ∙ reduce_small m p m (lt_of_le_of_lt (omega arith) ha)))

        moved : product m p (product m p (a / 2) 2) b ≡ product m p (a / 2) (product m p 2 b)
        moved = product_assoc (a / 2) 2 b half (pow-lt {i = 1} {j = m} two) hb
