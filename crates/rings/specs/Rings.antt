-- Rings of bytes in one lent memory (document 01, Delay line and Cross line): the ring of k units has k * M cells, and the rings lie end to end, the shortest first.
-- Assumes nothing.
use Rattle.std.specs.Prelude.{◌≡◌, refl, ◌≢◌, Bool, true, false, List, ℕ, zero, suc, ◌+◌, ◌-◌, ◌*◌, ◌/◌, ◌%◌, ◌≤◌, ◌<◌, get_or, set}
use Rattle.std.proofs.Common.{sym, ap, ◌∙◌, not-suc-le-zero, mul-le-mul_left, suc-mul, mul-suc, mul-add, mul_comm, mul_assoc, mul_left_comm, zero-mul, arith}
use Rattle.std.specs.Int.{◌∣◌}
use Rattle.std.proofs.Math.Nat.{mul-le-mul_right, add-mul, mod-lt, mod-add-mod, add-mod_right, div-add-mod, mul-div_cancel', mul-add-div, mul-add-mod_self_left}
use Rattle.std.proofs.Math.Decide.{ℕ_discrete, dec_lt}
use Rattle.algebra.specs.Refusal.{if_zero}

-- 0 + 1 + .. + (k - 1): the units before the ring of k units
unfoldable pub tri : ℕ → ℕ
tri zero = 0
tri (suc k) = tri k + k

-- the cell of the ring of k units at turn q
unfoldable pub ring : ℕ → ℕ → ℕ → ℕ
ring M k q = tri k * M + q % (k * M)

-- the order of the rings of I branches: branch j has the ring of j units in the sender, and back in the receiver that of I - 1 - j
abbrev pub order : Bool → ℕ → ℕ → ℕ
order false I j = j
order true I j = I - 1 - j

-- one turn of a ring on a memory: what comes out, and what stays. Without a ring the byte goes straight through
abbrev pub ring_out : ℕ → ℕ → ℕ → List ℕ → ℕ → ℕ
ring_out M k q m b = if_zero k b (get_or m (ring M k q) 0)

abbrev pub ring_kept : ℕ → ℕ → ℕ → List ℕ → ℕ → List ℕ
ring_kept M k q m b = if_zero k m (set m (ring M k q) b)

-- what `walk` asks of a ring: its numbers are small, and its cells are in the memory
pub record RingFits (M k size : ℕ) : Type 0 where
  pub some : 0 < M
  pub unit : M ≤ 128
  pub units : k ≤ 32
  pub inside : (q : ℕ) → 0 < k → ring M k q < size

-- ---- laws

-- each branch has a ring of its own
pub order_small : (back : Bool) (I j : ℕ) → j < I → order back I j < I
order_small false I j h = h
order_small true I j h = omega arith

pub order_own : (back : Bool) (I i j : ℕ) → i < I → j < I → order back I i ≡ order back I j → i ≡ j
order_own false I i j h k e = e
order_own true I i j h k e = omega arith

pub pos_mul : (a b : ℕ) → 0 < a → 0 < b → 0 < a * b
pos_mul a b h k = omega (arith, mul-le-mul_right b h, suc-mul 0 b, zero-mul b)

tri_mono : (k l : ℕ) → k < l → tri k + k ≤ tri l
unfolding tri
tri_mono k zero h = absurd (not-suc-le-zero h)
tri_mono k (suc l) h = elim (ℕ_discrete k l) [
  | yes e ↦ omega (arith, ap tri e)
  | no e ↦ omega (arith, tri_mono k l (omega arith))
]

tri_twice : (k : ℕ) → tri k + tri k ≡ k * (k - 1)
unfolding tri
tri_twice zero = sym (zero-mul (0 - 1))
tri_twice (suc zero) = refl
tri_twice (suc (suc k)) =
    let e : suc k - 1 ≡ k = omega arith in
    let g : suc (suc k) - 1 ≡ suc k = omega arith in
    rw g (omega (arith, rw e at (tri_twice (suc k)), suc-mul (suc k) (suc k), mul-suc (suc k) k))

-- where a ring starts, as the code computes it
pub tri_half : (k : ℕ) → k * (k - 1) / 2 ≡ tri k
tri_half k = omega (arith, tri_twice k)

-- all rings of fewer than I units together, as the paper counts them
pub tri_size : (I M : ℕ) → M * I * (I - 1) / 2 ≡ tri I * M
tri_size I M = omega (arith, mul_assoc M I (I - 1), ap (λ (z : ℕ). M * z) (tri_twice I), mul-add M (tri I) (tri I), mul_comm M (tri I))

module _ (M : ℕ) (unit : 0 < M) where
  pub ring_end : (k l q : ℕ) → 0 < k → k < l → ring M k q < tri l * M
  unfolding ring
  ring_end k l q h u =
      omega (arith, mod-lt q (pos_mul k M h unit), mul-le-mul_right M (tri_mono k l u), add-mul (tri k) k M)

  ring_low : (k l q r : ℕ) → 0 < k → k < l → ring M k q < ring M l r
  unfolding ring
  ring_low k l q r h u = omega (arith, ring_end k l q h u)

  -- two rings share no cell
  pub ring_apart : (k l q r : ℕ) → 0 < k → 0 < l → k ≢ l → ring M k q ≢ ring M l r
  ring_apart k l q r h j e g = elim (dec_lt k l) [
    | yes u ↦ absurd (omega (arith, ring_low k l q r h u))
    | no u ↦ absurd (omega (arith, ring_low l k r q j (omega arith)))
  ]

-- two numbers less than N apart have different rests
pub rest_apart : (N q r : ℕ) → q < r → r < q + N → q % N ≢ r % N
rest_apart N q r h l e = elim (dec_lt (q / N) (r / N)) [
  | yes u ↦ omega (arith, mul-le-mul_left N u, mul-suc N (q / N), div-add-mod q N, div-add-mod r N)
  | no u ↦ let v : r / N ≤ q / N = omega arith in omega (arith, mul-le-mul_left N v, div-add-mod q N, div-add-mod r N)
]

-- a ring comes to a cell again after k * M turns, and no sooner
pub ring_turns : (M k q r : ℕ) → q < r → r < q + k * M → ring M k q ≢ ring M k r
unfolding ring
ring_turns M k q r h l e = rest_apart (k * M) q r h l (omega arith)

pub ring_again : (M k q : ℕ) → ring M k (q + k * M) ≡ ring M k q
unfolding ring
ring_again M k q = rw add-mod_right

-- the cells of a ring lie together, and after the last comes the first
pub ring_within : (M k q : ℕ) → 0 < M → 0 < k → (tri k * M ≤ ring M k q) × (ring M k q < tri k * M + k * M)
unfolding ring
ring_within M k q h u = (omega arith, omega (arith, mod-lt q (pos_mul k M u h)))

pub ring_next : (M k q : ℕ) → ring M k (q + 1) ≡ tri k * M + (ring M k q + 1 - tri k * M) % (k * M)
unfolding ring
ring_next M k q =
    let e : tri k * M + q % (k * M) + 1 - tri k * M ≡ q % (k * M) + 1 = omega arith in
    rw (e, mod-add-mod q (k * M) 1)

regroup : (N I c y : ℕ) → N * I * c * y ≡ I * (N * (c * y))
regroup N I c y = simp (mul_assoc, mul_left_comm)

-- a step number may be taken modulo a whole number of turns
pub ring_period : (M k I P s : ℕ) → 0 < I → k * M * I ∣ P → ring M k (s % P / I) ≡ ring M k (s / I)
unfolding ring
ring_period M k I P s h d =
    let c = P / (k * M * I) in
    let y = s / P in
    let e : I * (k * M * (c * y)) + s % P ≡ s = omega (arith, regroup (k * M) I c y, ap (λ (z : ℕ). z * y) (mul-div_cancel' (k * M * I) d), div-add-mod s P) in
    let g : s / I ≡ k * M * (c * y) + s % P / I = sym (ap (λ (z : ℕ). z / I) e) ∙ mul-add-div h (k * M * (c * y)) (s % P) in
    ap (λ (z : ℕ). tri k * M + z) (sym (ap (λ (z : ℕ). z % (k * M)) g ∙ mul-add-mod_self_left (k * M) (c * y) (s % P / I)))
