-- The places of a word where an error can stand.
-- Assumes nothing.
use Rattle.std.specs.Prelude.{◌≡◌, List, ◌⊎◌, ◌≢◌, length, set, replicate}
use Rattle.std.proofs.Math.Path.{sym}
use Rattle.std.proofs.Common.{◌∙◌, inl, inr, ⊎_elim, length-set, get_or-set_same, get_or-set_other}
use Prim.Native.Nat.{ℕ, suc, ◌+◌, ◌-◌, ◌%◌, ◌^◌, ◌<◌, ◌≤◌}
use Rattle.std.proofs.Math.Decide.{ℕ_discrete, dec_lt}
use native.Mathlib.Omega.{arith}
use Rattle.std.specs.Int.Bits.{bit_xor}
use Rattle.std.proofs.lemmas.Nat.{xor_comm}
use Rattle.std.proofs.lemmas.List.{length-replicate, get_or-replicate}
use Rattle.algebra.specs.Sets.{either, one, one_yes, one_no}
use Rattle.algebra.specs.Tests.{at}
use Rattle.algebra.specs.Lists.{Filled, filled_more}
use Rattle.algebra.specs.Horner.{pow}
use Rattle.algebra.specs.Polynomials.{ev, ev_ext}
use Rattle.field.specs.Elements.{wide, prod}
use Rattle.field.proofs.Elements.{K}
use Rattle.decoder.specs.Places.{locator}
use Rattle.checks.specs.Syndromes.{lane_after}

-- a place is marked, or the polynomial's value y there is the field's zero
abbrev pub Possible : (m mark y : ℕ) → Type 0
Possible m mark y = (0 < mark) ⊎ (y % 2 ^ wide m ≡ 0)

-- 1 where it is so, else 0
unfoldable pub flag_of : (m mark y : ℕ) → ℕ
flag_of m mark y = one (either (dec_lt 0 mark) ((K m).dec y))

-- the value, at the locator of place i of a word of n, of the polynomial with the d coefficients v
abbrev pub value_at : (m n : ℕ) (v : List ℕ) (d i : ℕ) → ℕ
value_at m n v d i = ev (K m) d (λ l. at v l) (locator m (n - suc i))

-- the flags of the places of a word of n
pub record Candidates (m n : ℕ) (marks v : List ℕ) (d : ℕ) (flags : List ℕ) : Type 0 where
  pub sound : (i : ℕ) → i < n → 0 < at flags i → Possible m (at marks i) (value_at m n v d i)
  pub complete : (i : ℕ) → i < n → Possible m (at marks i) (value_at m n v d i) → 0 < at flags i

-- ---- the flag of one place

module _ (m mark y : ℕ) where
  pub flag_marked : 0 < mark → 1 ≡ flag_of m mark y
  unfolding flag_of
  flag_marked h = sym (one_yes _ (inl h))

  -- z is the m low bits of y
  pub flag_root : (z : ℕ) → z ≡ y % 2 ^ wide m → z ≡ 0 → 1 ≡ flag_of m mark y
  unfolding flag_of
  flag_root z f h = sym (one_yes _ (inr (rw (← f) h)))

  pub flag_none : (z : ℕ) → z ≡ y % 2 ^ wide m → mark ≡ 0 → z ≢ 0 → 0 ≡ flag_of m mark y
  unfolding flag_of
  flag_none z f a ne = sym (one_no _ (⊎_elim (λ l. omega arith) (λ h. ne (rw f h))))

  flag_sound : 0 < flag_of m mark y → Possible m mark y
  unfolding flag_of
  flag_sound h = elim (either (dec_lt 0 mark) ((K m).dec y)) [ yes p ↦ p | no p ↦ absurd (omega (arith, one_no (either (dec_lt 0 mark) ((K m).dec y)) p)) ]

  flag_complete : Possible m mark y → 0 < flag_of m mark y
  unfolding flag_of
  flag_complete p = omega (arith, one_yes (either (dec_lt 0 mark) ((K m).dec y)) p)

-- a list that is filled with the flags of all n places
pub flags_all : (m n : ℕ) (marks v : List ℕ) (d s : ℕ) (flags : List ℕ)
    → n ≤ s → Filled 255 (λ i. flag_of m (at marks i) (value_at m n v d i)) s flags → Candidates m n marks v d flags
flags_all m n marks v d s flags h q = record {
  sound = λ i l. rw (q.first i (omega arith)) (flag_sound m (at marks i) _);
  complete = λ i l. rw (q.first i (omega arith)) (flag_complete m (at marks i) _);
}

-- ---- the loop that fills the locators, from the last place down

-- the places of a word of n from i on have theirs
pub record Backed (m n i : ℕ) (table : List ℕ) : Type 0 where
  pub size : length table ≡ 255
  pub last : (k : ℕ) → i ≤ k → k < n → at table k ≡ locator m (n - suc k)

pub backed_none : (m n : ℕ) (table : List ℕ) → length table ≡ 255 → Backed m n n table
backed_none m n table e = record { size = e; last = λ k a l. absurd (omega arith) }

pub backed_more : (m n i : ℕ) (table : List ℕ) (x : ℕ)
    → 0 < i → i ≤ n → n ≤ 255 → x ≡ locator m (n - i) → Backed m n i table → Backed m n (i - 1) (set table (i - 1) x)
backed_more m n i table x a h f e p = record {
  size = length-set table (i - 1) x ∙ p.size;
  last = λ k b l. elim (ℕ_discrete k (i - 1)) [
    | yes g ↦ let s : n - suc k ≡ n - i = omega arith in rw (s, g, get_or-set_same table (i - 1) x 0 (omega (arith, p.size))) e
    | no g ↦ get_or-set_other table (i - 1) k x 0 g ∙ p.last k (omega arith) l
  ];
}

-- the last place has 1, and a place before another its double
pub locator_last : (m n : ℕ) → 1 ≡ locator m (n - n)
unfolding pow
locator_last m n = let e : n - n ≡ 0 = omega arith in rw e

pub locator_next : (m n i x : ℕ) → 0 < i → i ≤ n → x ≡ locator m (n - i) → prod m 2 x ≡ locator m (n - (i - 1))
unfolding pow
locator_next m n i x a h e = let s : n - (i - 1) ≡ suc (n - i) = omega arith in rw (s, e)

-- ---- the loops that take a polynomial's value, from the highest coefficient down

-- what point i holds after one turn
unfoldable pub raised_at : (m symbol : ℕ) (values points : List ℕ) → ℕ → ℕ
raised_at m symbol values points = lane_after m symbol values points

pub raised_more : (m symbol : ℕ) (values points : List ℕ) (i : ℕ) (next : List ℕ) (p : ℕ) → i < 255 → p ≡ prod m (at values i) (at points i)
    → Filled 255 (raised_at m symbol values points) i next → Filled 255 (raised_at m symbol values points) (i + 1) (set next i (bit_xor p symbol))
unfolding raised_at
raised_more m symbol values points i next p l e = filled_more 255 _ i next _ l (rw e)

-- and it depends on m by its width alone
pub raised_wide : (m k symbol : ℕ) (values points : List ℕ) (n : ℕ) (next : List ℕ) → wide m ≡ wide k
    → Filled 255 (raised_at k symbol values points) n next → Filled 255 (raised_at m symbol values points) n next
unfolding raised_at
raised_wide m k symbol values points n next w p = record { size = p.size; first = λ i l. p.first i l ∙ rw w }

module _ (m d : ℕ) (v : List ℕ) where
  -- the value at x of the coefficients from l on, with the l-th power of x taken out
  unfoldable pub upper : (x l : ℕ) → ℕ
  upper x l = ev (K m) (d - l) (λ i. at v (l + i)) x

  pub upper_none : (x : ℕ) → 0 ≡ upper x d
  unfolding upper ev
  upper_none x = let e : d - d ≡ 0 = omega arith in rw e

  pub upper_more : (x l s : ℕ) → 0 < l → l ≤ d → s ≡ upper x l → bit_xor (prod m s x) (at v (l - 1)) ≡ upper x (l - 1)
  unfolding upper ev
  upper_more x l s a h e =
      let t : d - (l - 1) ≡ suc (d - l) = omega arith in
      let u : l - 1 + 0 ≡ l - 1 = omega arith in
      let f : ev (K m) (d - l) (λ i. at v (l - 1 + suc i)) x ≡ ev (K m) (d - l) (λ i. at v (l + i)) x =
      ev_ext (K m) (d - l) _ _ x (λ i b. let w : l - 1 + suc i ≡ l + i = omega arith in rw w) in
      rw (t, u, f, (K m).mul_comm s x, e)
      (xor_comm (prod m x (ev (K m) (d - l) (λ i. at v (l + i)) x)) (at v (l - 1)))

  pub upper_all : (x l s : ℕ) → l ≤ 0 → s ≡ upper x l → s ≡ ev (K m) d (λ i. at v i) x
  unfolding upper
  upper_all x l s h e =
      let t : d - l ≡ d = omega arith in
      e ∙ rw t (ev_ext (K m) d (λ i. at v (l + i)) (λ i. at v i) x λ i b. let w : l + i ≡ i = omega arith in rw w)

  -- the same at n points
  module _ (n : ℕ) (points : List ℕ) where
    pub record Uppers (l : ℕ) (sums : List ℕ) : Type 0 where
      pub size : length sums ≡ 255
      pub first : (i : ℕ) → i < n → at sums i ≡ upper (at points i) l

    pub uppers_none : n ≤ 255 → Uppers d (replicate 255 0)
    uppers_none h = record { size = length-replicate {A = ℕ} 255 0; first = λ i a. get_or-replicate {A = ℕ} 255 i 0 0 (omega arith) ∙ upper_none (at points i) }

    pub uppers_more : (l : ℕ) (sums next : List ℕ)
        → 0 < l → l ≤ d → Filled 255 (raised_at m (at v (l - 1)) sums points) n next → Uppers l sums → Uppers (l - 1) next
    unfolding raised_at
    uppers_more l sums next a h p q = record { size = p.size; first = λ i b. p.first i b ∙ upper_more (at points i) l _ a h (q.first i b) }

    pub uppers_all : (l : ℕ) (sums : List ℕ) → l ≤ 0 → Uppers l sums → Filled 255 (λ i. ev (K m) d (λ l. at v l) (at points i)) n sums
    uppers_all l sums h q = record { size = q.size; first = λ i b. upper_all (at points i) l _ h (q.first i b) }
