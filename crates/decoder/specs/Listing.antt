-- The flagged places of a word as a list, and that to go through the list is to go through the word.
-- Assumes nothing.
use Rattle.std.specs.Prelude.{◌≡◌, ◌≢◌, List, length, set}
use Rattle.std.proofs.Math.Path.{refl}
use Prim.Native.Nat.{ℕ, zero, suc, ◌+◌, ◌-◌, ◌≤◌, ◌<◌}
use Rattle.std.proofs.Common.{not-suc-le-zero, arith, get_or-set_same, get_or-set_other}
use Rattle.std.proofs.Math.Numerals.{add-one}
use Rattle.std.proofs.Math.Decide.{ℕ_discrete}
use Rattle.std.specs.Int.Bits.{bit_xor}
use Rattle.algebra.specs.Tests.{at}
use Rattle.field.specs.Elements.{prod}
use Rattle.decoder.specs.Places.{locator}
use Rattle.decoder.specs.Peeling.{Peeled, PeeledAll, distance_of, Peeling, peeling_take, peeling_pass, peeling_end, Nearing, nearing_take, nearing_pass, nearing_end}

-- each of the c listed places is one of a word of n
abbrev pub Inside : ℕ → ℕ → List ℕ → Type 0
Inside n c places = (s : ℕ) → s < c → at places s < n

-- the place behind the one that is listed before entry s
unfoldable pub from : List ℕ → ℕ → ℕ
from places zero = 0
from places (suc s) = suc (at places s)

-- the c listed places are those of a word of n that are flagged, in order
pub record Listed (n : ℕ) (flags : List ℕ) (c : ℕ) (places : List ℕ) : Type 0 where
  pub inside : Inside n c places
  pub flagged : (s : ℕ) → s < c → 0 < at flags (at places s)
  pub ordered : (s : ℕ) → s < c → from places s ≤ at places s
  pub between : (s : ℕ) → s < c → (i : ℕ) → from places s ≤ i → i < at places s → at flags i ≡ 0
  pub within : from places c ≤ n
  pub behind : (i : ℕ) → from places c ≤ i → i < n → at flags i ≡ 0

-- the sums without the listed places but skip, whatever flags these are
abbrev pub PeeledListed : (m n : ℕ) (places : List ℕ) (c skip : ℕ) (sums rest : List ℕ) → Type 0
PeeledListed m n places c skip sums rest = (flags : List ℕ) → Listed n flags c places → PeeledAll m n flags skip sums rest

-- the distance of place p from the other listed places, whatever flags these are
abbrev pub Distant : (m n : ℕ) (places : List ℕ) (c p start far : ℕ) → Type 0
Distant m n places c p start far = (flags : List ℕ) → Listed n flags c places → far ≡ distance_of m n flags p start

-- ---- the loop that makes the list: the places before i are listed

pub listed_none : (flags places : List ℕ) → Listed 0 flags 0 places
unfolding from
listed_none flags places = record {
  inside = λ s h. absurd (not-suc-le-zero h);
  flagged = λ s h. absurd (not-suc-le-zero h);
  ordered = λ s h. absurd (not-suc-le-zero h);
  between = λ s h. absurd (not-suc-le-zero h);
  within = omega arith;
  behind = λ i a h. absurd (not-suc-le-zero h);
}

pub listed_pass : {i c : ℕ} {flags places : List ℕ} → at flags i ≡ 0 → Listed i flags c places → Listed (i + 1) flags c places
listed_pass {i} z h = record {
  inside = λ s l. omega (arith, h.inside s l);
  flagged = h.flagged;
  ordered = h.ordered;
  between = h.between;
  within = omega (arith, h.within);
  behind = λ k a l. elim (ℕ_discrete k i) [ yes e ↦ rw e z | no ne ↦ h.behind k a (omega arith) ];
}

module _ {i c : ℕ} {flags places : List ℕ} (f : 0 < at flags i) (l : c < length places) (h : Listed i flags c places) where
  abbrev longer : List ℕ
  longer = set places c i

  last : at longer c ≡ i
  last = get_or-set_same places c i 0 l

  old : (s : ℕ) → s < c → at longer s ≡ at places s
  old s g = get_or-set_other places c s i 0 (omega arith)

  old_from : (s : ℕ) → s ≤ c → from longer s ≡ from places s
  unfolding from
  old_from zero g = refl
  old_from (suc s) g = rw (old s (omega arith))

  pub listed_add : Listed (i + 1) flags (c + 1) (set places c i)
  unfolding from
  listed_add = record {
    inside = λ s g. elim (ℕ_discrete s c) [ yes e ↦ rw (e, last) (omega arith) | no ne ↦ rw (old s (omega arith)) (omega (arith, h.inside s (omega arith))) ];
    flagged = λ s g. elim (ℕ_discrete s c) [ yes e ↦ rw (e, last) f | no ne ↦ rw (old s (omega arith)) (h.flagged s (omega arith)) ];
    ordered = λ s g. elim (ℕ_discrete s c) [
      | yes e ↦ rw (e, last, old_from c (omega arith)) h.within
      | no ne ↦ rw (old s (omega arith), old_from s (omega arith)) (h.ordered s (omega arith))
    ];
    between = λ s g k a b. elim (ℕ_discrete s c) [
      | yes e ↦ h.behind k (rw (e, old_from c (omega arith)) at a) (rw (e, last) at b)
      | no ne ↦ h.between s (omega arith) k (rw (old_from s (omega arith)) at a) (rw (old s (omega arith)) at b)
    ];
    within = rw (add-one, last) (omega arith);
    behind = λ k a b. absurd (omega (arith, rw (add-one, last) at a));
  }

-- ---- through the word by the list

-- what holds on at every place without a flag holds on up to the next place with one
carry : (P : ℕ → Type 0) (n : ℕ) (flags : List ℕ) → ((i : ℕ) → i < n → at flags i ≡ 0 → P i → P (i + 1))
    → (k i : ℕ) → i + k ≤ n → ((l : ℕ) → i ≤ l → l < i + k → at flags l ≡ 0) → P i → P (i + k)
carry P n flags step zero i h z p = let e : i + 0 ≡ i = omega arith in rw e p
carry P n flags step (suc k) i h z p =
    let e : i + suc k ≡ i + 1 + k = omega arith in
    rw e (carry P n flags step k (i + 1) (omega arith) (λ l a b. z l (omega arith) (omega arith)) (step i (omega arith) (z i (omega arith) (omega arith)) p))

module _ (P : ℕ → Type 0) {n c : ℕ} {flags places : List ℕ} (step : (i : ℕ) → i < n → at flags i ≡ 0 → P i → P (i + 1)) (h : Listed n flags c places) where
  to_listed : (s : ℕ) → s < c → P (from places s) → P (at places s)
  to_listed s l p =
      let e : from places s + (at places s - from places s) ≡ at places s = omega (arith, h.ordered s l) in
      rw e at (carry P n flags step (at places s - from places s) (from places s) (omega (arith, h.inside s l, h.ordered s l)) (λ i a b. h.between s l i a (omega arith)) p)

  to_end : P (from places c) → P n
  to_end p =
      let e : from places c + (n - from places c) ≡ n = omega (arith, h.within) in
      rw e at (carry P n flags step (n - from places c) (from places c) (omega (arith, h.within)) (λ i a b. h.behind i a (omega (arith, h.within))) p)

module _ {m n c skip : ℕ} {flags places sums : List ℕ} (h : Listed n flags c places) where
  unflagged : {rest : List ℕ} (i : ℕ) → i < n → at flags i ≡ 0 → Peeling m n flags skip sums i rest → Peeling m n flags skip sums (i + 1) rest
  unflagged i l z o = peeling_pass l o λ q. omega (arith, q.0)

  module _ {s : ℕ} {rest : List ℕ} (l : s < c) (o : Peeling m n flags skip sums (from places s) rest) where
    here : Peeling m n flags skip sums (at places s) rest
    here = to_listed (λ i. Peeling m n flags skip sums i rest) unflagged h s l o

    pub peeled_take : {x : ℕ} {next : List ℕ} → at places s ≢ skip → x ≡ locator m (n - suc (at places s)) → Peeled m x rest next → Peeling m n flags skip sums (from places (s + 1)) next
    unfolding from
    peeled_take {x} {next} ne e t = rw add-one (rw add-one at (peeling_take (h.inside s l) here {x = x} {next = next} (h.flagged s l) ne e t))

    pub peeled_skip : at places s ≡ skip → Peeling m n flags skip sums (from places (s + 1)) rest
    unfolding from
    peeled_skip e = rw add-one (rw add-one at (peeling_pass (h.inside s l) here λ q. q.1 e))

  pub peeled_end : {s : ℕ} {rest : List ℕ} → s ≡ c → Peeling m n flags skip sums (from places s) rest → PeeledAll m n flags skip sums rest
  peeled_end {s} {rest} e o = peeling_end (omega arith) (to_end (λ i. Peeling m n flags skip sums i rest) unflagged h (rw e at o))

module _ {m n c p start : ℕ} {flags places : List ℕ} (h : Listed n flags c places) where
  unflagged_far : {y : ℕ} (i : ℕ) → i < n → at flags i ≡ 0 → Nearing m n flags p start i y → Nearing m n flags p start (i + 1) y
  unflagged_far i l z o = nearing_pass l o λ q. omega (arith, q.0)

  module _ {s y : ℕ} (l : s < c) (o : Nearing m n flags p start (from places s) y) where
    far_here : Nearing m n flags p start (at places s) y
    far_here = to_listed (λ i. Nearing m n flags p start i y) unflagged_far h s l o

    pub far_take : {x z u : ℕ} → at places s ≢ p → x ≡ locator m (n - suc p) → z ≡ locator m (n - suc (at places s)) → u ≡ prod m y (bit_xor x z) → Nearing m n flags p start (from places (s + 1)) u
    unfolding from
    far_take ne e f g = rw add-one (rw add-one at (nearing_take (h.inside s l) far_here (h.flagged s l) ne e f g))

    pub far_skip : at places s ≡ p → Nearing m n flags p start (from places (s + 1)) y
    unfolding from
    far_skip e = rw add-one (rw add-one at (nearing_pass (h.inside s l) far_here λ q. q.1 e))

  pub far_end : {s y : ℕ} → s ≡ c → Nearing m n flags p start (from places s) y → y ≡ distance_of m n flags p start
  far_end {s} {y} e o = nearing_end (omega arith) (to_end (λ i. Nearing m n flags p start i y) unflagged_far h (rw e at o))
