-- Decimal numbers: their digits one by one, how many there are, and that the text says the number.
-- Assumes nothing.
use Rattle.std.specs.Prelude.{◌≡◌, refl, Bool, true, false, List, [], ◌∷◌, ◌++◌, ℕ, zero, suc, ◌+◌, ◌-◌, ◌*◌, ◌/◌, ◌%◌, ◌^◌, ◌≤◌, ◌<◌, ltb, length, get_or, if◌then◌else◌}
use Rattle.std.proofs.Common.{not-suc-le-zero, arith, lt-ltb, le-ltb, ltb-true, ltb-false, length-append}
use Rattle.text.specs.Text.{bytes, digit, digits, decimal, signed}

-- one digit, or more
by_size : {P : Type 0} (n : ℕ) → (n < 10 → P) → (10 ≤ n → P) → P
by_size {P} n one more = go (ltb n 10) refl
  where
    go : (t : Bool) → ltb n 10 ≡ t → P
    go true e = one (ltb-true n 10 e)
    go false e = more (ltb-false n 10 e)

-- room for more digits changes nothing
digits_same : (k j n : ℕ) → n < k → n < j → digits k n ≡ digits j n
unfolding digits
digits_same zero j n a b = absurd (not-suc-le-zero a)
digits_same (suc k) zero n a b = absurd (not-suc-le-zero b)
digits_same (suc k) (suc j) n a b =
    by_size n (λ l. rw (lt-ltb n 10 l)) (λ l. rw (le-ltb n 10 l, digits_same k j (n / 10) (omega arith) (omega arith)))

module _ (n : ℕ) where
  pub decimal_one : n < 10 → decimal n ≡ digit n ∷ []
  unfolding decimal digits
  decimal_one l = rw (lt-ltb n 10 l)

  pub decimal_more : 10 ≤ n → decimal n ≡ decimal (n / 10) ++ digit (n % 10) ∷ []
  unfolding decimal digits
  decimal_more l = rw (le-ltb n 10 l, digits_same n (suc (n / 10)) (n / 10) (omega arith) (omega arith))

  pub decimal_more_size : 10 ≤ n → length (decimal n) ≡ length (decimal (n / 10)) + 1
  decimal_more_size l = rw (decimal_more l, length-append)

  pub decimal_some : 0 < length (decimal n)
  decimal_some = by_size n (λ l. rw (decimal_one l) (omega arith)) (λ l. omega (arith, decimal_more_size l))

  pub signed_plus : n < 2147483648 → signed n ≡ decimal n
  unfolding signed
  signed_plus l = rw (lt-ltb n 2147483648 l)

  pub signed_minus : 2147483648 ≤ n → signed n ≡ bytes "-" ++ decimal (4294967296 - n)
  unfolding signed
  signed_minus l = rw (le-ltb n 2147483648 l)

-- ---- how many bytes there are

pub decimal_size : (k n : ℕ) → n < 10 ^ suc k → length (decimal n) ≤ suc k
decimal_size zero n l = rw (decimal_one n l) (omega arith)
decimal_size (suc k) n l =
    by_size n (λ m. rw (decimal_one n m) (omega arith)) (λ m. omega (arith, decimal_more_size n m, decimal_size k (n / 10) (omega arith)))

pub signed_size : (n : ℕ) → n < 4294967296 → length (signed n) ≤ 11
unfolding signed
signed_size n l = go (ltb n 2147483648)
  where
    go : (t : Bool) → length (if t then decimal n else bytes "-" ++ decimal (4294967296 - n)) ≤ 11
    go true = omega (arith, decimal_size 9 n (omega arith))
    go false = omega (arith, decimal_size 9 (4294967296 - n) (omega arith))

-- ---- the text says the number

-- what holds of the digits, and of a number where it holds of its tenth part, holds of every number
by_digits : (P : ℕ → Type 0) → ((n : ℕ) → n < 10 → P n) → ((n : ℕ) → 10 ≤ n → P (n / 10) → P n) → (n : ℕ) → P n
by_digits P one more n = go (suc n) n (omega arith)
  where
    go : (k n : ℕ) → n < k → P n
    go zero n l = absurd (not-suc-le-zero l)
    go (suc k) n l = by_size n (one n) (λ m. more n m (go k (n / 10) (omega arith)))

-- the number that a text of digits says, read from the first on
unfoldable pub value_from : ℕ → List ℕ → ℕ
value_from n [] = n
value_from n (d ∷ l) = value_from (10 * n + (d - 48)) l

value_last : (n : ℕ) (l : List ℕ) (d : ℕ) → value_from n (l ++ d ∷ []) ≡ 10 * value_from n l + (d - 48)
unfolding value_from
value_last n [] d = refl
value_last n (c ∷ l) d = value_last (10 * n + (c - 48)) l d

pub decimal_value : (n : ℕ) → value_from 0 (decimal n) ≡ n
unfolding value_from
decimal_value = by_digits (λ n. value_from 0 (decimal n) ≡ n)
    (λ n l. rw (decimal_one n l) (omega arith))
    (λ n l h. rw (decimal_more n l, value_last, h) (omega arith))

-- no zero leads, but in 0 itself
pub decimal_leads : (n : ℕ) → 0 < n → 48 < get_or (decimal n) 0 0
decimal_leads = by_digits (λ n. 0 < n → 48 < get_or (decimal n) 0 0)
    (λ n l p. rw (decimal_one n l) (omega arith))
    (λ n l h p. rw (decimal_more n l) (go (decimal (n / 10)) _ (h (omega arith))))
  where
    go : (l : List ℕ) (d : ℕ) → 48 < get_or l 0 0 → 48 < get_or (l ++ d ∷ []) 0 0
    go [] d p = absurd (not-suc-le-zero p)
    go (c ∷ l) d p = p
