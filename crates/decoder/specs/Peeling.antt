-- What peeling does to the power sums of a word of n symbols, and how far a place is from the others.
-- Assumes nothing.
use Rattle.std.specs.Prelude.{◌≡◌, refl, ◌≢◌, List, set, replicate}
use Rattle.std.proofs.Math.Path.{sym}
use Rattle.std.proofs.Common.{◌∙◌, add-one}
use Prim.Native.Nat.{ℕ, suc, ◌+◌, ◌-◌, ◌<◌, ◌≤◌}
use native.Mathlib.Omega.{arith}
use Rattle.std.specs.Int.Bits.{bit_xor}
use Rattle.algebra.specs.Lists.{Filled, filled_more}
use Rattle.algebra.specs.Ring.{mul_comm}
use Rattle.algebra.specs.Tests.{at}
use Rattle.algebra.specs.Sets.{count, one_yes, one_no}
use Rattle.algebra.specs.Peel.{peel, peels, peels_zero, peels_yes, peels_no, far, far_zero, far_yes, far_no}
use Rattle.field.specs.Elements.{prod}
use Rattle.field.proofs.Elements.{K}
use Rattle.field.specs.Lanes.{Products, scaled_left}
use Rattle.decoder.specs.Places.{locator, spare}

-- the sums without a place of locator x
abbrev pub without : ℕ → ℕ → List ℕ → ℕ → ℕ
without m x sums j = bit_xor (prod m x (at sums j)) (at sums (suc j))

-- one less of them counts
abbrev pub Peeled : ℕ → ℕ → List ℕ → List ℕ → Type 0
Peeled m x sums rest = (j : ℕ) → j < 15 → at rest j ≡ without m x sums j

-- what is left of the sums when the flagged places but skip are peeled
abbrev pub peeled_of : (m n : ℕ) (flags : List ℕ) (skip : ℕ) (sums : List ℕ) → ℕ → ℕ
peeled_of m n flags skip sums = peels (K m) (λ k. locator m k) (spare flags skip n) n (λ j. at sums j)

-- as many of the sums are left as there were, less the places
abbrev pub PeeledAll : (m n : ℕ) (flags : List ℕ) (skip : ℕ) (sums rest : List ℕ) → Type 0
PeeledAll m n flags skip sums rest = (j : ℕ) → j + count (spare flags skip n) n < 16 → at rest j ≡ peeled_of m n flags skip sums j

-- start, times the differences of the locator of place p from those of the other flagged places
abbrev pub distance_of : (m n : ℕ) (flags : List ℕ) (p start : ℕ) → ℕ
distance_of m n flags p start = far (K m) (λ k. locator m k) (spare flags p n) n (n - suc p) start

-- ---- one place, by a loop that fills the sums from the front

pub peel_more : (m x : ℕ) (sums products : List ℕ) {j : ℕ} {rest : List ℕ} → j < 15 → Products m (replicate 16 x) sums products → Filled 16 (without m x sums) j rest
    → Filled 16 (without m x sums) (j + 1) (set rest j (bit_xor (at products j) (at sums (j + 1))))
peel_more m x sums products {j} l p o = filled_more 16 _ j _ _ (omega arith) (rw (scaled_left m x sums products p j (omega arith), add-one)) o

-- ---- the flagged places, as a loop that counts up comes by the coefficients, which the theory counts down

module _ (n i : ℕ) (l : i < n) where
  at_turn : n - i ≡ suc (n - suc i)
  at_turn = omega arith

  past_turn : n - (i + 1) ≡ n - suc i
  past_turn = omega arith

  spare_yes : (flags : List ℕ) (skip : ℕ) → 0 < at flags i → i ≢ skip → (0 < at flags (n - suc (n - suc i))) × (n - suc (n - suc i) ≢ skip)
  spare_yes flags skip a b = let e : n - suc (n - suc i) ≡ i = omega arith in rw e (a, b)

  spare_no : (flags : List ℕ) (skip : ℕ) → ¬ ((0 < at flags i) × (i ≢ skip)) → ¬ ((0 < at flags (n - suc (n - suc i))) × (n - suc (n - suc i) ≢ skip))
  spare_no flags skip f = let e : n - suc (n - suc i) ≡ i = omega arith in rw e f

-- ---- peeling all, half way

-- the sums agree with a sequence as far as they count, and what is left to peel of it is what was to be peeled of all
pub record Peeling (m n : ℕ) (flags : List ℕ) (skip : ℕ) (sums : List ℕ) (i : ℕ) (rest : List ℕ) : Type 0 where
  pub seq : ℕ → ℕ
  pub gone : ℕ
  pub agrees : (j : ℕ) → j + gone < 16 → at rest j ≡ seq j
  pub same : (j : ℕ) → peels (K m) (λ k. locator m k) (spare flags skip n) (n - i) seq j ≡ peeled_of m n flags skip sums j
  pub counted : gone + count (spare flags skip n) (n - i) ≡ count (spare flags skip n) n

module _ {m n : ℕ} {flags : List ℕ} {skip : ℕ} {sums : List ℕ} where
  pub peeling_start : Peeling m n flags skip sums 0 sums
  peeling_start =
      let e : n - 0 ≡ n = omega arith in
      record { seq = λ j. at sums j; gone = 0; agrees = λ j h. refl; same = λ j. rw e; counted = rw e (omega arith) }

  module _ {i : ℕ} {rest : List ℕ} (l : i < n) (o : Peeling m n flags skip sums i rest) where
    pub peeling_take : {x : ℕ} {next : List ℕ} → 0 < at flags i → i ≢ skip → x ≡ locator m (n - suc i) → Peeled m x rest next → Peeling m n flags skip sums (i + 1) next
    unfolding count
    peeling_take a b e t =
        let here = spare_yes n i l flags skip a b in
        record {
          seq = peel (K m) (locator m (n - suc i)) o.seq;
          gone = suc o.gone;
          agrees = λ j h. t j (omega arith) ∙ rw (e, o.agrees j (omega arith), o.agrees (suc j) (omega arith));
          same = λ j. rw (past_turn n i l) (sym (peels_yes (K m) (λ k. locator m k) (spare flags skip n) (n - suc i) o.seq j here) ∙ rw (at_turn n i l) at (o.same j));
          counted = rw (past_turn n i l) (omega (arith, one_yes (spare flags skip n (n - suc i)) here, rw (at_turn n i l) at o.counted));
        }

    pub peeling_pass : ¬ ((0 < at flags i) × (i ≢ skip)) → Peeling m n flags skip sums (i + 1) rest
    unfolding count
    peeling_pass f =
        let here = spare_no n i l flags skip f in
        record {
          seq = o.seq;
          gone = o.gone;
          agrees = o.agrees;
          same = λ j. rw (past_turn n i l) (sym (peels_no (K m) (λ k. locator m k) (spare flags skip n) (n - suc i) o.seq j here) ∙ rw (at_turn n i l) at (o.same j));
          counted = rw (past_turn n i l) (omega (arith, one_no (spare flags skip n (n - suc i)) here, rw (at_turn n i l) at o.counted));
        }

  pub peeling_end : {i : ℕ} {rest : List ℕ} → n ≤ i → Peeling m n flags skip sums i rest → PeeledAll m n flags skip sums rest
  unfolding count
  peeling_end {i} h o j l =
      let e : n - i ≡ 0 = omega arith in
      o.agrees j (omega (arith, rw e at o.counted)) ∙ sym (peels_zero (K m) (λ k. locator m k) (spare flags skip n) o.seq j) ∙ rw e at (o.same j)

-- ---- the distance, half way

-- y, times the differences that are left, is the distance from start
pub record Nearing (m n : ℕ) (flags : List ℕ) (p start i y : ℕ) : Type 0 where
  pub whole : far (K m) (λ k. locator m k) (spare flags p n) (n - i) (n - suc p) y ≡ distance_of m n flags p start

module _ {m n : ℕ} {flags : List ℕ} {p start : ℕ} where
  pub nearing_start : Nearing m n flags p start 0 start
  nearing_start = let e : n - 0 ≡ n = omega arith in record { whole = rw e }

  module _ {i y : ℕ} (l : i < n) (o : Nearing m n flags p start i y) where
    pub nearing_take : {x z u : ℕ} → 0 < at flags i → i ≢ p → x ≡ locator m (n - suc p) → z ≡ locator m (n - suc i) → u ≡ prod m y (bit_xor x z) → Nearing m n flags p start (i + 1) u
    nearing_take {x} {z} a b e f g = record {
      whole = rw (past_turn n i l, g, mul_comm (K m) y (bit_xor x z), e, f)
          (sym (far_yes (K m) (λ k. locator m k) (spare flags p n) (n - suc i) (n - suc p) y (spare_yes n i l flags p a b)) ∙ rw (at_turn n i l) at o.whole);
    }

    pub nearing_pass : ¬ ((0 < at flags i) × (i ≢ p)) → Nearing m n flags p start (i + 1) y
    nearing_pass f = record {
      whole = rw (past_turn n i l)
          (sym (far_no (K m) (λ k. locator m k) (spare flags p n) (n - suc i) (n - suc p) y (spare_no n i l flags p f)) ∙ rw (at_turn n i l) at o.whole);
    }

  pub nearing_end : {i y : ℕ} → n ≤ i → Nearing m n flags p start i y → y ≡ distance_of m n flags p start
  nearing_end {i} {y} h o =
      let e : n - i ≡ 0 = omega arith in
      sym (far_zero (K m) (λ k. locator m k) (spare flags p n) (n - suc p) y) ∙ rw e at o.whole
