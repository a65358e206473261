-- The record after any list of answers: what its counts come to, which frame its last number is of, and how the next frame is judged.
-- Assumes nothing.
use Rattle.std.specs.Prelude.{◌≡◌, ℕ, ◌+◌, ◌-◌, ◌%◌, ◌<◌, ◌≤◌, min, max, Bool, true, false, ◌||◌, ltb, ◌≢◌, List, [], ◌∷◌, map, ◌==◌, nat_lt, refl, if◌then◌else◌}
use Rattle.std.proofs.Common.{sym, ap, ◌∙◌, arith, eq-eqb, ne_eqb, lt-ltb}
use Rattle.std.proofs.Math.Decide.{ℕ_discrete}
use Rattle.algebra.specs.Tests.{one_if}
use Rattle.record.specs.Order.{lag}
use Rattle.record.specs.Order.Laws.{true_order, by_order, compared_true, lag_true}
use Rattle.record.specs.Record.{counted_as, lost_after, behind_by, kind_of, standing, noted}
use Rattle.record.specs.Record.Laws.{by_memory, behind_stays, standing_again, standing_first, noted_accepted}
use Rattle.record.specs.declared.order.Order.TheVariants.{Behind}
use Rattle.record.specs.declared.Record.{Record}
use Rattle.record.specs.declared.Kind.{Kind}
use Rattle.record.specs.declared.Kind.TheVariants.{Newer, Repeat, Older, Late}

-- what a frame was answered, and its sequence number
pub record Heard : Type 0 where
  pub number : ℕ
  pub sequence : ℕ

-- the record after all of them, in turn
unfoldable pub after : Record → List Heard → Record
after h [] = h
after h (a ∷ rest) = after (noted h a.number a.sequence) rest

-- ---- the counts

abbrev pub is_accepted : Heard → Bool
is_accepted a = a.number == 0

abbrev pub is_lost : Heard → Bool
is_lost a = a.number == 4 || a.number == 5

-- how many of them pass the test
unfoldable pub tally : (Heard → Bool) → List Heard → ℕ
tally test [] = 0
tally test (a ∷ rest) = one_if (test a) + tally test rest

-- the accepted frames that a record has counted
abbrev pub frames : Record → ℕ
frames h = h.newer + h.repeat + h.older + h.late

-- what an answer adds, where it is an accepted frame or a refusal 4 or 5
record Adds (accepts loses : Bool) (h r : Record) : Type 0 where
  ever : r.accepted ≡ (accepts || h.accepted)
  accepted : frames h + one_if accepts ≤ 4294967295 → frames r ≡ frames h + one_if accepts
  lost : h.refused ≤ 4294967295 → r.refused ≡ min (h.refused + one_if loses) 4294967295

adds_kind : (h : Record) (new : ℕ) (k : Kind) → Adds true false h (counted_as h new k)
adds_kind h new Newer = record { ever = refl; accepted = λ f. omega arith; lost = λ f. omega arith }
adds_kind h new Repeat = record { ever = refl; accepted = λ f. omega arith; lost = λ f. omega arith }
adds_kind h new Older = record { ever = refl; accepted = λ f. omega arith; lost = λ f. omega arith }
adds_kind h new Late = record { ever = refl; accepted = λ f. omega arith; lost = λ f. omega arith }

adds_refusal : (h : Record) (loses : Bool) → Adds false loses h (if loses then lost_after h else h)
adds_refusal h true = record { ever = refl; accepted = λ f. omega arith; lost = λ f. refl }
adds_refusal h false = record { ever = refl; accepted = λ f. omega arith; lost = λ f. omega arith }

adds : (h : Record) (a : Heard) → Adds (is_accepted a) (is_lost a) h (noted h a.number a.sequence)
unfolding noted
adds h a = elim (ℕ_discrete a.number 0) [
  | yes e ↦ rw e (adds_kind h a.sequence (standing h a.sequence))
  | no n ↦ rw (ne_eqb a.number 0 n) (adds_refusal h (is_lost a))
]

-- what the record r says of all that was heard since h: whether a frame was ever accepted, how many were while there is room to count
-- them, and how many were refused 4 or 5
pub record Told (heard : List Heard) (h r : Record) : Type 0 where
  pub ever : r.accepted ≡ (h.accepted || nat_lt 0 (tally is_accepted heard))
  pub accepted : frames h + tally is_accepted heard ≤ 4294967295 → frames r ≡ frames h + tally is_accepted heard
  pub lost : h.refused ≤ 4294967295 → r.refused ≡ min (h.refused + tally is_lost heard) 4294967295

ever_none : (b : Bool) → b ≡ (b || nat_lt 0 0)
ever_none true = refl
ever_none false = refl

ever_more : (accepts before : Bool) (n : ℕ) → ((accepts || before) || nat_lt 0 n) ≡ (before || nat_lt 0 (one_if accepts + n))
ever_more true true n = refl
ever_more true false n = sym (lt-ltb 0 (1 + n) (omega arith))
ever_more false true n = refl
ever_more false false n = let e : n ≡ 0 + n = omega arith in ap (ltb 0) e

pub told : (heard : List Heard) (h : Record) → Told heard h (after h heard)
unfolding after tally
told [] h = record { ever = ever_none h.accepted; accepted = λ f. omega arith; lost = λ f. omega arith }
told (a ∷ rest) h =
    let s = adds h a in
    let t = told rest (noted h a.number a.sequence) in
    record {
      ever = t.ever ∙ rw s.ever (ever_more (is_accepted a) h.accepted (tally is_accepted rest));
      accepted = λ f. let x = s.accepted (omega arith) in omega (arith, t.accepted (omega arith));
      lost = λ f. let x = s.lost f in omega (arith, t.lost (omega arith));
    }

-- ---- the last number, of frames that a sender numbers on without end

-- a frame as it is sent: its number wrapped at 65536
abbrev pub carried : Heard → Heard
carried a = record { number = a.number; sequence = a.sequence % 65536 }

-- the highest number of the accepted frames and of `top`
abbrev pub higher : ℕ → Heard → ℕ
higher top a = if is_accepted a then max top a.sequence else top

unfoldable pub highest : ℕ → List Heard → ℕ
highest top [] = top
highest top (a ∷ rest) = highest (higher top a) rest

-- each accepted frame is at most 32767 ahead of the highest before it, and at most 32768 behind
unfoldable pub Paced : ℕ → List Heard → Type 0
Paced top [] = Unit {0}
Paced top (a ∷ rest) = (a.number ≡ 0 → (a.sequence ≤ top + 32767) × (top ≤ a.sequence + 32768)) × Paced (higher top a) rest

-- the record's last number is that of frame `top`
pub record Stands (h : Record) (top : ℕ) : Type 0 where
  pub accepted : h.accepted ≡ true
  pub last : h.last ≡ top % 65536

-- how frame t stands to frame top by the sender's own numbers, where the memory is that of top
abbrev pub true_kind : (memory t top : ℕ) → Kind
true_kind memory t top = kind_of memory (top - t) (true_order t top)

-- a frame near enough is judged as the sender's own numbers say
pub judged : (h : Record) (top t : ℕ) → Stands h top → t ≤ top + 32767 → top ≤ t + 32768 → standing h (t % 65536) ≡ true_kind h.seen t top
judged h top t s a b =
    sym (standing_again h (t % 65536) s.accepted)
    ∙ rw (s.last, compared_true t top a b)
    (by_order (λ o. kind_of h.seen (lag (t % 65536) (top % 65536)) o ≡ kind_of h.seen (top - t) o) t top
    (λ e. refl) (λ l. refl) (λ l. ap (behind_by h.seen) (lag_true t top l b)))

stands_refused : (h : Record) (top number new : ℕ) → Stands h top → number ≢ 0 → Stands (noted h number new) top
unfolding noted
stands_refused h top number new s n = rw (ne_eqb number 0 n) (by_test (number == 4 || number == 5))
  where
    by_test : (l : Bool) → Stands (if l then lost_after h else h) top
    by_test true = record { accepted = s.accepted; last = s.last }
    by_test false = s

stands_order : (h : Record) (top t : ℕ) → Stands h top → Stands (counted_as h (t % 65536) (true_kind h.seen t top)) (max top t)
stands_order h top t s =
    by_order (λ o. Stands (counted_as h (t % 65536) (kind_of h.seen (top - t) o)) (max top t)) t top
    (λ e. record { accepted = refl; last = omega arith })
    (λ l. record { accepted = refl; last = omega arith })
    (λ l. by_memory h.seen (top - t) (λ k. Stands (counted_as h (t % 65536) k) (max top t))
    (λ far. record { accepted = refl; last = omega arith })
    (λ near e. record { accepted = refl; last = omega arith })
    (λ near e. record { accepted = refl; last = omega arith }))

pub stands_step : (h : Record) (top : ℕ) (a : Heard) → Stands h top → (a.number ≡ 0 → (a.sequence ≤ top + 32767) × (top ≤ a.sequence + 32768))
    → Stands (noted h a.number (a.sequence % 65536)) (higher top a)
stands_step h top a s paced = elim (ℕ_discrete a.number 0) [
  | yes e ↦
      rw (eq-eqb a.number 0 e, ← noted_accepted h a.number (a.sequence % 65536) e, judged h top a.sequence s (paced e).0 (paced e).1)
      (stands_order h top a.sequence s)
  | no n ↦ rw (ne_eqb a.number 0 n) (stands_refused h top a.number (a.sequence % 65536) s n)
]

-- the last number is that of the newest frame
pub newest : (h : Record) (top : ℕ) (heard : List Heard) → Stands h top → Paced top heard → Stands (after h (map carried heard)) (highest top heard)
unfolding after highest Paced
newest h top [] s paced = s
newest h top (a ∷ rest) s paced =
    newest (noted h a.number (a.sequence % 65536)) (higher top a) rest (stands_step h top a s paced.0) paced.1

-- the same from the first accepted frame on, whatever the last number was before
pub stands_first : (h : Record) (first : ℕ) → h.accepted ≡ false → Stands (noted h 0 (first % 65536)) first
stands_first h first n = rw (← noted_accepted h 0 (first % 65536) refl, ← standing_first h (first % 65536) n) (record { accepted = refl; last = refl })

pub newest_from_first : (h : Record) (first : ℕ) (heard : List Heard) → h.accepted ≡ false → Paced first heard
    → Stands (after (noted h 0 (first % 65536)) (map carried heard)) (highest first heard)
newest_from_first h first heard n paced = newest (noted h 0 (first % 65536)) first heard (stands_first h first n) paced

-- a frame that at most 32768 numbers have overtaken, whatever came in between
module _ (h : Record) (top : ℕ) (heard : List Heard) (t : ℕ) (s : Stands h top) (paced : Paced top heard) (l : t < highest top heard) (few : highest top heard ≤ t + 32768) where
  abbrev r : Record
  r = after h (map carried heard)

  -- it is behind, and so is late, repeat or older by the memory
  pub late_copy : noted r 0 (t % 65536) ≡ counted_as r (t % 65536) (behind_by r.seen (highest top heard - t))
  late_copy =
      let behind : true_order t (highest top heard) ≡ Behind = by_order (λ o. o ≡ Behind) t (highest top heard) (λ e. absurd (omega arith)) (λ m. absurd (omega arith)) (λ m. refl) in
      sym (noted_accepted r 0 (t % 65536) refl)
      ∙ ap (counted_as r (t % 65536)) (judged r (highest top heard) t (newest h top heard s paced) (omega arith) few ∙ ap (kind_of r.seen (highest top heard - t)) behind)

  -- and it is never again the newest
  pub never_newest : ((noted r 0 (t % 65536)).last ≡ r.last) × ((noted r 0 (t % 65536)).newer ≡ r.newer)
  never_newest = rw late_copy (behind_stays r (t % 65536) r.seen (highest top heard - t))
