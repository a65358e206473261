-- What the memory means after any list of answers. A sequence number tells a frame only up to rounds of 65536, so the frames are numbered
-- on without end here: each gets, of the numbers that are carried as its own, the one nearest to the newest frame before it, as the record
-- itself judges it. A number that comes round again is another frame's. The newest frame only rises, so a frame that has come to lie farther
-- than 32 below it stays beyond the memory's reach, and one within reach was accepted, if at all, since it came there.
-- Assumes nothing.
use Rattle.std.specs.Prelude.{◌≡◌, ℕ, ◌+◌, ◌-◌, ◌%◌, ◌<◌, ◌≤◌, max, Bool, true, false, not, ◌||◌, ◌≢◌, List, [], ◌∷◌, map, ◌==◌, refl, if◌then◌else◌}
use Rattle.std.proofs.Common.{sym, ap₂, ◌∙◌, arith, eq-eqb, ne_eqb, le-leb}
use Rattle.std.proofs.Math.Path.{ap}
use Rattle.std.proofs.lemmas.Bool.{false≢true}
use Rattle.std.proofs.Math.Decide.{ℕ_discrete}
use Rattle.algebra.specs.Tests.{one_if, total, total_same}
use Rattle.record.specs.Memory.{seen_at, unseen_in}
use Rattle.record.specs.Memory.Laws.{none_seen}
use Rattle.record.specs.Order.{lead}
use Rattle.record.specs.Record.{fresh_record, noted}
use Rattle.record.specs.Record.History.{Heard, after, is_accepted, carried, higher, highest, Paced, newest_from_first}
use Rattle.record.specs.Record.Recall.{accepts, remembered, refused_keeps}
use Rattle.record.specs.declared.Record.{Record}

-- of the numbers that are carried as `new`, the one from 32768 below `top` to 32767 above it
abbrev pub nearest : ℕ → ℕ → ℕ
nearest top new = top - 32768 + lead new ((top - 32768) % 65536)

abbrev pub renumbered : Heard → ℕ → Heard
renumbered a t = record { number = a.number; sequence = t }

-- the answers with their frames' own numbers, where `top` is the newest frame so far
unfoldable pub numbered_from : ℕ → List Heard → List Heard
numbered_from top [] = []
numbered_from top (a ∷ rest) = renumbered a (nearest top a.sequence) ∷ numbered_from (higher top (renumbered a (nearest top a.sequence))) rest

-- the same from the start: the first accepted frame is of round 1, so that there are numbers below it
unfoldable pub numbered : List Heard → List Heard
numbered [] = []
numbered (a ∷ rest) =
    if is_accepted a then renumbered a (65536 + a.sequence) ∷ numbered_from (65536 + a.sequence) rest else
    a ∷ numbered rest

-- every number is one that a frame can carry
unfoldable pub Carried : List Heard → Type 0
Carried [] = Unit {0}
Carried (a ∷ rest) = (a.sequence < 65536) × Carried rest

-- the newest of them
abbrev pub newest_of : List Heard → ℕ
newest_of heard = highest 0 (numbered heard)

-- ---- the frames' own numbers

-- they are carried as the answers say
pub from_carried : (top : ℕ) (heard : List Heard) → Carried heard → map carried (numbered_from top heard) ≡ heard
unfolding numbered_from Carried
from_carried top [] c = refl
from_carried top (a ∷ rest) c =
    ap₂ ◌∷◌ (ap (renumbered a) (same (top - 32768) a.sequence c.0)) (from_carried (higher top (renumbered a (nearest top a.sequence))) rest c.1)
  where
    same : (base new : ℕ) → new < 65536 → (base + lead new (base % 65536)) % 65536 ≡ new
    same base new l = omega arith

-- and each is as near to the newest before it as the record can judge
from_paced : (top : ℕ) (heard : List Heard) → 32768 ≤ top → Paced top (numbered_from top heard)
unfolding numbered_from Paced
from_paced top [] l = tt
from_paced top (a ∷ rest) l =
    let b = renumbered a (nearest top a.sequence) in
    ((λ e. near top a.sequence l), from_paced (higher top b) rest (rises (is_accepted b)))
  where
    near : (top new : ℕ) → 32768 ≤ top → (nearest top new ≤ top + 32767) × (top ≤ nearest top new + 32768)
    near top new l = (omega arith, omega arith)

    rises : (b : Bool) → 32768 ≤ (if b then max top (nearest top a.sequence) else top)
    rises true = omega arith
    rises false = l

highest_least : (top : ℕ) (heard : List Heard) → top ≤ highest top heard
unfolding highest
highest_least top [] = omega arith
highest_least top (a ∷ rest) = omega (arith, highest_least (higher top a) rest, rises (is_accepted a))
  where
    rises : (b : Bool) → top ≤ (if b then max top a.sequence else top)
    rises true = omega arith
    rises false = omega arith

pub numbers_carried : (heard : List Heard) → Carried heard → map carried (numbered heard) ≡ heard
unfolding numbered Carried
numbers_carried [] c = refl
numbers_carried (a ∷ rest) c = by_answer (is_accepted a) (numbers_carried rest c.1)
  where
    round_one : (new : ℕ) → new < 65536 → (65536 + new) % 65536 ≡ new
    round_one new l = omega arith

    none : (new : ℕ) → new < 65536 → new % 65536 ≡ new
    none new l = omega arith

    by_answer : (b : Bool) → map carried (numbered rest) ≡ rest
        → map carried (if b then renumbered a (65536 + a.sequence) ∷ numbered_from (65536 + a.sequence) rest else a ∷ numbered rest) ≡ (a ∷ rest)
    by_answer true later = ap₂ ◌∷◌ (ap (renumbered a) (round_one a.sequence c.0)) (from_carried (65536 + a.sequence) rest c.1)
    by_answer false later = ap₂ ◌∷◌ (ap (renumbered a) (none a.sequence c.0)) later

-- ---- what the record says of them

pub record Remembers (heard : List Heard) (r : Record) : Type 0 where
  pub last : r.accepted ≡ true → r.last ≡ newest_of heard % 65536
  pub entries : (d : ℕ) → 1 ≤ d → d ≤ 32 → seen_at r.seen d ≡ accepts (numbered heard) (newest_of heard - d)

-- before the first accepted frame the refused ones are passed over
module _ (a : Heard) (rest : List Heard) (n : a.number ≢ 0) where
  numbered_over : numbered (a ∷ rest) ≡ (a ∷ numbered rest)
  unfolding numbered
  numbered_over = rw (ne_eqb a.number 0 n)

  over_top : newest_of (a ∷ rest) ≡ newest_of rest
  unfolding highest
  over_top = let stays : higher 0 a ≡ 0 = rw (ne_eqb a.number 0 n) in ap (highest 0) numbered_over ∙ ap (λ (x : ℕ). highest x (numbered rest)) stays

  over_accepts : (t : ℕ) → accepts (numbered (a ∷ rest)) t ≡ accepts (numbered rest) t
  unfolding accepts
  over_accepts t = ap (λ (l : List Heard). accepts l t) numbered_over ∙ rw (ne_eqb a.number 0 n)

  over_refused : (r : Record) → Remembers rest r → Remembers (a ∷ rest) r
  over_refused r m = record {
    last = λ f. m.last f ∙ ap (λ (x : ℕ). x % 65536) (sym over_top);
    entries = λ d l k. m.entries d l k ∙ sym (over_accepts (newest_of (a ∷ rest) - d) ∙ ap (λ (x : ℕ). accepts (numbered rest) (x - d)) over_top);
  }

-- and from it on the frames are numbered from its own number
module _ (a : Heard) (rest : List Heard) (e : a.number ≡ 0) where
  abbrev first : ℕ
  first = 65536 + a.sequence

  numbered_first : numbered (a ∷ rest) ≡ (renumbered a first ∷ numbered_from first rest)
  unfolding numbered
  numbered_first = rw (eq-eqb a.number 0 e)

  first_top : newest_of (a ∷ rest) ≡ highest first (numbered_from first rest)
  unfolding highest
  first_top =
      let rises : higher 0 (renumbered a first) ≡ first = rw (eq-eqb a.number 0 e) (omega arith) in
      ap (highest 0) numbered_first ∙ ap (λ (x : ℕ). highest x (numbered_from first rest)) rises

  first_accepts : (t : ℕ) → accepts (numbered (a ∷ rest)) t ≡ (first == t || accepts (numbered_from first rest) t)
  unfolding accepts
  first_accepts t = ap (λ (l : List Heard). accepts l t) numbered_first ∙ rw (eq-eqb a.number 0 e)

  from_first : (h : Record) → h.accepted ≡ false → Carried (a ∷ rest) → Remembers (a ∷ rest) (after (noted h a.number a.sequence) rest)
  unfolding Carried
  from_first h none c =
      let round : first % 65536 ≡ a.sequence = omega (arith, c.0) in
      let left : after (noted h 0 (first % 65536)) (map carried (numbered_from first rest)) ≡ after (noted h a.number a.sequence) rest =
      rw (round, e) (ap (after (noted h 0 a.sequence)) (from_carried first rest c.1)) in
      let m = remembered h first (numbered_from first rest) none (from_paced first rest (omega arith)) in
      let s = newest_from_first h first (numbered_from first rest) none (from_paced first rest (omega arith)) in
      rw (← left)
      (record {
        last = λ f. s.last ∙ ap (λ (x : ℕ). x % 65536) (sym first_top);
        entries = λ d l k.
            m.entries d l k
            ∙ rw (le-leb d (highest first (numbered_from first rest)) (omega (arith, highest_least first (numbered_from first rest))))
            (sym (first_accepts (newest_of (a ∷ rest) - d) ∙ ap (λ (x : ℕ). (first == x - d) || accepts (numbered_from first rest) (x - d)) first_top));
      })

-- a record that has accepted nothing and has an empty memory, as a fresh one is
pub remembers : (h : Record) (heard : List Heard) → h.accepted ≡ false → h.seen ≡ 0 → Carried heard → Remembers heard (after h heard)
unfolding after Carried accepts numbered
remembers h [] none empty c = record { last = λ a. absurd (false≢true (sym none ∙ a)); entries = λ d a b. rw empty (none_seen d) }
remembers h (a ∷ rest) none empty c = elim (ℕ_discrete a.number 0) [
  | yes e ↦ from_first a rest e h none c
  | no n ↦
      let kept = refused_keeps h a.number a.sequence n in
      over_refused a rest n (after (noted h a.number a.sequence) rest)
      (remembers (noted h a.number a.sequence) rest (kept.0 ∙ none) (kept.1 ∙ empty) c.1)
]

-- the memory's meaning: from a fresh record on, the entry at distance d is set exactly if the frame d below the newest was accepted
pub memory_means : (heard : List Heard) → Carried heard → Remembers heard (after fresh_record heard)
memory_means heard c = remembers fresh_record heard refl refl c

-- and as many of the 32 are unseen as were not
pub unseen_means : (heard : List Heard) → Carried heard
    → unseen_in (after fresh_record heard).seen ≡ total 32 (λ i. one_if (not (accepts (numbered heard) (newest_of heard - (i + 1)))))
unfolding unseen_in
unseen_means heard c = total_same 32 _ _ λ i l. ap (λ (b : Bool). one_if (not b)) ((memory_means heard c).entries (i + 1) (omega arith) (omega arith))
