-- What the memory holds, entry by entry: after a number is seen, and after the last has moved on; and what the code makes of its digits.
-- Assumes nothing.
use Rattle.std.specs.Prelude.{◌≡◌, ℕ, zero, suc, ◌+◌, ◌-◌, ◌*◌, ◌/◌, ◌%◌, ◌^◌, ◌<◌, ◌≤◌, true, false, not, ◌≢◌, bit_or, nat_eq, refl}
use Rattle.std.proofs.Common.{sym, ap₂, ◌∙◌, mul_assoc, one-mul, add-mul, mul_right_comm, add-one, pow-add, pow-suc, shr_lt, shl_exact, ne_eqb, w32}
use Rattle.std.proofs.Math.Path.{ap}
use Rattle.std.proofs.Math.Nat.{mul-mod_left, mod-add-div', add-mul-mod_self_right}
use Rattle.std.proofs.Math.Decide.{ℕ_discrete}
use Rattle.std.proofs.Math.Pow.{pow-lt}
use native.Mathlib.Omega.{arith}
use Rattle.std.proofs.Math.Arith.{lt-one}
use Rattle.std.proofs.lemmas.Nat.{or_shifted, mod-pow-add}
use Rattle.std.proofs.lemmas.Nat.Bits.{bit_at-zero, bit_at-suc, bit_at-lt, bit_at_or, bit_at_not, bit_at-pow_same, bit_at-pow_other, bit_at_cat_low, bit_at_cat_high}
use Rattle.std.specs.Int.{bit_at, bit_not, count_zeros}
use Rattle.std.specs.Int.Count.{ones, ones_step}
use Rattle.algebra.specs.Tests.{one_if, total, total_first, total_same}
use Rattle.record.specs.Memory.{seen_at, seeing, slid, unseen_in}

-- ---- the entries

-- an entry is a binary digit
entry_is : (x y d e : ℕ) → bit_at x (d - 1) ≡ bit_at y (e - 1) → seen_at x d ≡ seen_at y e
unfolding seen_at
entry_is x y d e p = ap (λ (z : ℕ). nat_eq z 1) p

entry_set : (x d : ℕ) → bit_at x (d - 1) ≡ 1 → seen_at x d ≡ true
unfolding seen_at
entry_set x d p = rw p

entry_clear : (x d : ℕ) → bit_at x (d - 1) ≡ 0 → seen_at x d ≡ false
unfolding seen_at
entry_clear x d p = rw p

-- of an empty memory
pub none_seen : (d : ℕ) → seen_at 0 d ≡ false
none_seen d = entry_clear 0 d (bit_at-zero (d - 1))

-- once the number at distance d is seen: it is, and every other is as it was
module _ (memory d : ℕ) where
  pub seeing_there : seen_at (seeing memory d) d ≡ true
  unfolding seeing
  seeing_there =
      entry_set (seeing memory d) d
      (bit_at_or memory (2 ^ (d - 1)) (d - 1) ∙ omega (arith, bit_at-pow_same (d - 1), bit_at-lt memory (d - 1)))

  pub seeing_elsewhere : (e : ℕ) → 1 ≤ d → 1 ≤ e → e ≢ d → seen_at (seeing memory d) e ≡ seen_at memory e
  unfolding seeing
  seeing_elsewhere e l m n =
      entry_is (seeing memory d) memory e e
      (bit_at_or memory (2 ^ (d - 1)) (e - 1) ∙ omega (arith, bit_at-pow_other (d - 1) (e - 1) (λ s. n (omega arith))))

-- once the last has moved on by a step: what it passed over is unseen, the old last is seen, and what was below that lies a step farther
module _ (memory step d : ℕ) (some : 1 ≤ step) (within : d ≤ 32) where
  -- before it is cut to 32 digits: the old memory above the step, and a one just below it
  abbrev carried : ℕ
  carried = memory * 2 ^ step + 2 ^ (step - 1)

  carried_is : (2 * memory + 1) * 2 ^ (step - 1) ≡ carried
  carried_is =
      let e : step ≡ suc (step - 1) = omega arith in
      let twice : 2 ^ step ≡ 2 ^ (step - 1) * 2 = ap (λ (w : ℕ). 2 ^ w) e ∙ pow-suc 2 (step - 1) in
      rw twice (omega arith)

  carried_low : 1 ≤ d → bit_at (slid memory step) (d - 1) ≡ bit_at carried (d - 1)
  unfolding slid
  carried_low l =
      let whole : carried / 2 ^ 32 * 2 ^ 32 + carried % 2 ^ 32 ≡ carried = omega arith in
      ap (λ (x : ℕ). bit_at (x % 2 ^ 32) (d - 1)) carried_is
      ∙ sym (bit_at_cat_low (carried / 2 ^ 32) 32 (carried % 2 ^ 32) (d - 1) (omega arith))
      ∙ ap (λ (x : ℕ). bit_at x (d - 1)) whole

  pub slid_near : 1 ≤ d → d < step → seen_at (slid memory step) d ≡ false
  slid_near l m =
      entry_clear (slid memory step) d
      (carried_low l ∙ bit_at_cat_low memory step (2 ^ (step - 1)) (d - 1) (omega arith) ∙ bit_at-pow_other (step - 1) (d - 1) (λ e. omega arith))

  pub slid_last : d ≡ step → seen_at (slid memory step) d ≡ true
  slid_last e =
      let there : d - 1 ≡ step - 1 = omega arith in
      entry_set (slid memory step) d
      (carried_low (omega arith) ∙ bit_at_cat_low memory step (2 ^ (step - 1)) (d - 1) (omega arith) ∙ rw there (bit_at-pow_same (step - 1)))

  pub slid_far : step < d → seen_at (slid memory step) d ≡ seen_at memory (d - step)
  slid_far l =
      let farther : d - 1 - step ≡ d - step - 1 = omega arith in
      entry_is (slid memory step) memory d (d - step)
      (carried_low (omega arith) ∙ bit_at_cat_high memory step (2 ^ (step - 1)) (d - 1) (pow-lt (omega arith)) (omega arith) ∙ ap (bit_at memory) farther)

-- ---- what the code computes

-- a factor may be reduced first
rest_times : (a c m : ℕ) → (a % m * c) % m ≡ a * c % m
rest_times a c m = sym (ap (λ (x : ℕ). x * c % m) (sym (mod-add-div' a m)) ∙ ap (λ (x : ℕ). x % m) split ∙ add-mul-mod_self_right (a % m * c) (a / m * c) m)
  where
    split : (a % m + a / m * m) * c ≡ a % m * c + (a / m * c) * m
    split = add-mul (a % m) (a / m * m) c ∙ ap (λ (x : ℕ). a % m * c + x) (mul_right_comm (a / m) m c)

-- the shifted one, which stays within 32 digits
pub seen_by : (memory d : ℕ) → 1 ≤ d → d ≤ 32 → bit_or memory ((1 * 2 ^ (d - 1)) % 2 ^ 32) ≡ seeing memory d
unfolding seeing
seen_by memory d l m = ap (bit_or memory) (shl_exact 1 (d - 1) 32 (omega arith) (omega arith) ∙ one-mul (2 ^ (d - 1)))

-- a step of up to 32 by two shifts within 32 digits
pub slid_by : (memory step : ℕ) → (bit_or (memory * 2 ^ 1 % 2 ^ 32) 1 * 2 ^ (step - 1)) % 2 ^ 32 ≡ slid memory step
unfolding slid
slid_by memory step =
    let none : memory * 2 / 2 ≡ memory = omega arith in
    let even : memory * 2 ^ 1 % 2 ^ 32 ≡ memory % 2 ^ 31 * 2 ^ 1 = mod-pow-add (memory * 2) 31 1 ∙ rw none (omega arith) in
    let half : (2 * memory + 1) / 2 ≡ memory = omega arith in
    let odd : (2 * memory + 1) % 2 ^ 32 ≡ memory % 2 ^ 31 * 2 ^ 1 + 1 = mod-pow-add (2 * memory + 1) 31 1 ∙ rw half (omega arith) in
    ap (λ (x : ℕ). (x * 2 ^ (step - 1)) % 2 ^ 32) (ap (λ (x : ℕ). bit_or x 1) even ∙ or_shifted (memory % 2 ^ 31) 1 1 (omega arith) ∙ sym odd)
    ∙ rest_times (2 * memory + 1) (2 ^ (step - 1)) (2 ^ 32)

-- and past it nothing is left
pub slid_past : (memory step : ℕ) → 32 < step → 0 ≡ slid memory step
unfolding slid
slid_past memory step l =
    let e : step - 1 ≡ (step - 33) + 32 = omega arith in
    sym (ap (λ (w : ℕ). ((2 * memory + 1) * 2 ^ w) % 2 ^ 32) e
    ∙ ap (λ (y : ℕ). ((2 * memory + 1) * y) % 2 ^ 32) (pow-add 2 (step - 33) 32)
    ∙ ap (λ (y : ℕ). y % 2 ^ 32) (sym (mul_assoc (2 * memory + 1) (2 ^ (step - 33)) (2 ^ 32)))
    ∙ mul-mod_left ((2 * memory + 1) * 2 ^ (step - 33)) (2 ^ 32))

-- the ones, digit by digit
ones_are : (k x : ℕ) → x < 2 ^ k → ones x ≡ total k (bit_at x)
unfolding total ones
ones_are zero x l = rw (lt-one l)
ones_are (suc k) x l =
    let m : x / 2 ^ 1 < 2 ^ k = shr_lt k 1 (rw (add-one k) l) in
    ones_step x ∙ ap₂ ◌+◌ refl (ones_are k (x / 2) m)
    ∙ sym (total_first k (bit_at x) ∙ omega (arith, total_same k (λ i. bit_at x (suc i)) (bit_at (x / 2)) λ i h. bit_at-suc x i))

-- the zeros of its 32 digits are what is unseen
pub zeros_unseen : (memory : ℕ) → memory < 2 ^ 32 → count_zeros w32 memory ≡ unseen_in memory
unfolding unseen_in seen_at
zeros_unseen memory l =
    ones_are 32 (bit_not w32 memory) (omega arith) ∙ total_same 32 (bit_at (bit_not w32 memory)) (λ i. one_if (not (nat_eq (bit_at memory (i + 1 - 1)) 1))) entry
  where
    entry : (i : ℕ) → i < 32 → bit_at (bit_not w32 memory) i ≡ one_if (not (nat_eq (bit_at memory (i + 1 - 1)) 1))
    entry i h =
        let there : i + 1 - 1 ≡ i = omega arith in
        bit_at_not w32 memory i l h ∙ rw there (elim (ℕ_discrete (bit_at memory i) 1) [
          | yes e ↦ rw e
          | no n ↦ rw (ne_eqb (bit_at memory i) 1 n) (omega (arith, bit_at-lt memory i))
        ])

-- every entry is one of the two
zeros_and_ones : (n x : ℕ) → total n (λ i. one_if (not (seen_at x (i + 1)))) + total n (bit_at x) ≡ n
unfolding total seen_at
zeros_and_ones zero x = refl
zeros_and_ones (suc n) x = omega (arith, zeros_and_ones n x, entry)
  where
    i_is : n + 1 - 1 ≡ n
    i_is = omega arith

    entry : one_if (not (seen_at x (n + 1))) + bit_at x n ≡ 1
    entry = elim (ℕ_discrete (bit_at x n) 1) [
      | yes e ↦ rw (i_is, e)
      | no m ↦ rw (i_is, ne_eqb (bit_at x n) 1 m) (omega (arith, bit_at-lt x n))
    ]

-- so what is unseen and what is seen are all 32
pub unseen_and_seen : (memory : ℕ) → memory < 2 ^ 32 → unseen_in memory + ones memory ≡ 32
unfolding unseen_in
unseen_and_seen memory l = omega (arith, zeros_and_ones 32 memory, ones_are 32 memory l)
