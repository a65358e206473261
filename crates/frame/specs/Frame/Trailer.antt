-- The area to be sent entry by entry, the test of a received one, and the payload as a part of it.
-- Assumes nothing.
use Rattle.std.specs.Prelude.{◌≡◌, refl, Bool, true, false, Ok, Err, List, [], ◌++◌, ℕ, ◌+◌, ◌-◌, ◌≤◌, ◌<◌, take, drop, replicate, eqb}
use Rattle.std.proofs.Math.Path.{sym}
use Rattle.std.proofs.Common.{ap, ◌∙◌, eqb→eq, get_or-take, length-take-le}
use native.Mathlib.Omega.{arith}
use borrow.Author.Tests.{le-leb, lt-leb, eq-eqb}
use Rattle.std.proofs.Math.ListN.{length, length-append, get_or-append}
use Rattle.std.proofs.lemmas.List.{length-replicate, get_or-replicate}
use Rattle.std.proofs.Math.Seq.{get_or-append-add}
use Rattle.algebra.specs.Tests.{at, each, each_at, each_all, below, below_at, below_all, passed}
use Rattle.frame.specs.Frame.{trailer, two_at, area_sent, zeros_before, trailer_good, payload_in, payload_of}
use Rattle.frame.specs.declared.setting.Received.{Received}
use Rattle.frame.specs.declared.setting.ReceiveError.{ReceiveError}

-- ---- the area to be sent

module _ (A : ℕ) (payload : List ℕ) (sequence : ℕ) (fits : length payload + 4 ≤ A) where
  abbrev front : ℕ
  front = A - 4 - length payload

  abbrev zeros : List ℕ
  zeros = replicate front 0

  zeros_size : length zeros ≡ front
  zeros_size = length-replicate front 0

  head_size : length (zeros ++ payload) ≡ A - 4
  head_size = length-append (zeros) payload ∙ omega (arith, zeros_size)

  pub length_sent : length (area_sent A payload sequence) ≡ A
  unfolding area_sent
  length_sent = length-append (zeros ++ payload) (trailer (length payload) sequence) ∙ omega (arith, head_size)

  in_head : (i : ℕ) → i < A - 4 → at (area_sent A payload sequence) i ≡ at (zeros ++ payload) i
  unfolding area_sent
  in_head i h = get_or-append (zeros ++ payload) (trailer (length payload) sequence) 0 i (omega (arith, head_size))

  pub sent_zero : (i : ℕ) → i < front → 0 ≡ at (area_sent A payload sequence) i
  sent_zero i h =
      sym (in_head i (omega arith) ∙ get_or-append (zeros) payload 0 i (omega (arith, zeros_size)) ∙ get_or-replicate front i 0 0 h)

  pub sent_payload : (i : ℕ) → front ≤ i → i < A - 4 → at payload (i - front) ≡ at (area_sent A payload sequence) i
  sent_payload i l h =
      let e : length (zeros) + (i - front) ≡ i = omega (arith, zeros_size) in
      sym (in_head i h ∙ ap (at (zeros ++ payload)) (sym e) ∙ get_or-append-add (zeros) payload (i - front) 0)

  pub sent_trailer : (i : ℕ) → A - 4 ≤ i → at (trailer (length payload) sequence) (i - (A - 4)) ≡ at (area_sent A payload sequence) i
  unfolding area_sent
  sent_trailer i l =
      let e : length (zeros ++ payload) + (i - (A - 4)) ≡ i = omega (arith, head_size) in
      sym (ap (at (area_sent A payload sequence)) (sym e) ∙ get_or-append-add (zeros ++ payload) (trailer (length payload) sequence) (i - (A - 4)) 0)

-- ---- zeros before the payload

pub zeros_stop : (end : ℕ) (area : List ℕ) (i : ℕ) → i < end → (at area i ≡ 0 → ⊥) → false ≡ zeros_before end area
unfolding zeros_before
zeros_stop end area i l h = go (each end λ k. eqb (at area k) 0) refl
  where
    go : (b : Bool) → (each end λ k. eqb (at area k) 0) ≡ b → false ≡ b
    go true e = absurd (h (eqb→eq (at area i) 0 (each_at end (λ k. eqb (at area k) 0) (rw e tt) i l)))
    go false e = refl

pub zeros_all : (end : ℕ) (area : List ℕ) → ((i : ℕ) → i < end → at area i ≡ 0) → true ≡ zeros_before end area
unfolding zeros_before
zeros_all end area h = sym (passed _ (each_all end (λ k. eqb (at area k) 0) λ i l. rw (eq-eqb (at area i) 0 (h i l)) tt))

-- as the code tests it: bytes below 1
pub zeros_below : (end : ℕ) (area : List ℕ) → end ≤ length area → below 1 (take end area) ≡ zeros_before end area
unfolding zeros_before
zeros_below end area l = same (below 1 (take end area)) (zeros_before end area) refl refl
  where
    same : (a b : Bool) → below 1 (take end area) ≡ a → zeros_before end area ≡ b → a ≡ b
    same true b e h = zeros_all end area (λ i k. let z : at (take end area) i < 1 = below_at 1 (take end area) (rw e tt) i (omega arith) in sym (get_or-take end area i 0 k) ∙ omega arith) ∙ h
    same false false e h = refl
    same false true e h = sym e ∙ passed _ (below_all 1 (take end area) λ i k.
        let inside : i < end = omega (arith, length-take-le end area l) in
        let zero : at area i ≡ 0 = eqb→eq (at area i) 0 (each_at end (λ j. eqb (at area j) 0) (rw h tt) i inside) in
        let here : at (take end area) i ≡ at area i = get_or-take end area i 0 inside in
        omega arith)

-- ---- the trailer's test

module _ (A : ℕ) (area : List ℕ) where
  pub good_long : A - 4 < two_at area (A - 4) → false ≡ trailer_good A area
  unfolding trailer_good
  good_long h = rw (lt-leb (two_at area (A - 4)) (A - 4) h)

  pub good_within : two_at area (A - 4) ≤ A - 4 → (b : Bool) → b ≡ zeros_before (A - 4 - two_at area (A - 4)) area → b ≡ trailer_good A area
  unfolding trailer_good
  good_within h b e = rw (le-leb (two_at area (A - 4)) (A - 4) h) e

-- ---- the payload

pub payload_refused : (e : ReceiveError) (area : List ℕ) → [] ≡ payload_of (Err e) area
unfolding payload_of
payload_refused e area = refl

module _ (r : Received) (area : List ℕ) where
  pub payload_short : length area < r.back + 4 → [] ≡ payload_of (Ok r) area
  unfolding payload_of payload_in
  payload_short h = rw (lt-leb (r.back + 4) (length area) h)

  pub payload_there : r.back + 4 ≤ length area → take (length area - 4 - (length area - 4 - r.back)) (drop (length area - 4 - r.back) area) ≡ payload_of (Ok r) area
  unfolding payload_of payload_in
  payload_there h =
      let n : length area - 4 - (length area - 4 - r.back) ≡ r.back = omega arith in
      rw (le-leb (r.back + 4) (length area) h, n)
