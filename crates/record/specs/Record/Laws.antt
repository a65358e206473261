-- The cases of a standing and of a note, one for each way out of the code, and what a kind says of the two numbers.
-- Assumes nothing.
use Rattle.std.specs.Prelude.{◌≡◌, ℕ, ◌<◌, ◌≤◌, Bool, true, false, ◌≢◌, if◌then◌else◌}
use Rattle.std.proofs.Math.Path.{refl}
use Rattle.std.proofs.Common.{sym, ap, ◌∙◌, subst, arith}
use Rattle.std.proofs.lemmas.Bool.{false≢true}
use Rattle.std.proofs.Math.Decide.{dec_lt}
use borrow.Author.Tests.{ne_eqb, lt-ltb, le-ltb}
use Rattle.record.specs.Memory.{seen_at, slid}
use Rattle.record.specs.Order.{lead, lag, compared}
use Rattle.record.specs.Order.Laws.{Says, says}
use Rattle.record.specs.Record.{memory_after, counted_as, lost_after, behind_by, kind_of, standing, noted}
use Rattle.record.specs.declared.order.Order.{Order}
use Rattle.record.specs.declared.order.Order.TheVariants.{Same, Ahead, Behind}
use Rattle.record.specs.declared.Record.{Record}
use Rattle.record.specs.declared.Kind.{Kind}
use Rattle.record.specs.declared.Kind.TheVariants.{Newer, Repeat, Older, Late}

-- the kinds of a frame behind the last
module _ (memory d : ℕ) where
  pub behind_far : 32 < d → Older ≡ behind_by memory d
  behind_far l = rw (lt-ltb 32 d l)

  pub behind_seen : d ≤ 32 → seen_at memory d ≡ true → Repeat ≡ behind_by memory d
  behind_seen l e = rw (le-ltb 32 d l, e)

  pub behind_unseen : d ≤ 32 → seen_at memory d ≡ false → Late ≡ behind_by memory d
  behind_unseen l e = rw (le-ltb 32 d l, e)

  -- what holds in each of the three cases holds of the kind
  pub by_memory : (P : Kind → Type 0) → (32 < d → P Older) → (d ≤ 32 → seen_at memory d ≡ true → P Repeat) → (d ≤ 32 → seen_at memory d ≡ false → P Late)
      → P (behind_by memory d)
  by_memory P far seen unseen = elim (dec_lt 32 d) [
    | yes l ↦ rw (lt-ltb 32 d l) (far l)
    | no n ↦ rw (le-ltb 32 d (omega arith)) (by_entry (omega arith) (seen_at memory d) refl)
  ]
    where
      by_entry : d ≤ 32 → (b : Bool) → seen_at memory d ≡ b → P (if b then Repeat else Late)
      by_entry l true e = seen l e
      by_entry l false e = unseen l e

-- none of the three moves the last number, nor is counted as newer
pub behind_stays : (h : Record) (new memory d : ℕ)
    → ((counted_as h new (behind_by memory d)).last ≡ h.last) × ((counted_as h new (behind_by memory d)).newer ≡ h.newer)
behind_stays h new memory d =
    by_memory memory d (λ k. ((counted_as h new k).last ≡ h.last) × ((counted_as h new k).newer ≡ h.newer)) (λ far. (refl, refl)) (λ near e. (refl, refl)) (λ near e. (refl, refl))

module _ (h : Record) (new : ℕ) where
  pub standing_again : h.accepted ≡ true → kind_of h.seen (lag new h.last) (compared new h.last) ≡ standing h new
  unfolding standing
  standing_again a = rw a

  pub standing_as : (o : Order) → h.accepted ≡ true → o ≡ compared new h.last → kind_of h.seen (lag new h.last) o ≡ standing h new
  standing_as o a e = ap (kind_of h.seen (lag new h.last)) e ∙ standing_again a

  pub standing_first : h.accepted ≡ false → Newer ≡ standing h new
  unfolding standing
  standing_first a = rw a

  pub memory_again : h.accepted ≡ true → slid h.seen (lead new h.last) ≡ memory_after h new
  unfolding memory_after
  memory_again a = rw a

  pub memory_first : h.accepted ≡ false → 0 ≡ memory_after h new
  unfolding memory_after
  memory_first a = rw a

-- a newer number leads the last, where there is one, and a late one lies within the memory's reach
abbrev pub Tells : Record → ℕ → Kind → Type 0
Tells h new Newer = h.accepted ≡ true → 1 ≤ lead new h.last
Tells h new Repeat = Unit {0}
Tells h new Older = Unit {0}
Tells h new Late = (1 ≤ lag new h.last) × (lag new h.last ≤ 32)

module _ (h : Record) (new : ℕ) where
  tells_behind : 32768 ≤ lead new h.last → Tells h new (behind_by h.seen (lag new h.last))
  tells_behind l = by_memory h.seen (lag new h.last) (Tells h new) (λ far. tt) (λ near e. tt) (λ near e. (omega arith, near))

  tells_order : (o : Order) → Says (lead new h.last) o → Tells h new (kind_of h.seen (lag new h.last) o)
  tells_order Same s = tt
  tells_order Ahead s = λ a. s.0
  tells_order Behind s = tells_behind s

  pub tells : Tells h new (standing h new)
  unfolding standing
  tells = by_flag h.accepted refl
    where
      by_flag : (b : Bool) → h.accepted ≡ b → Tells h new (if b then kind_of h.seen (lag new h.last) (compared new h.last) else Newer)
      by_flag true a = tells_order (compared new h.last) (says new h.last)
      by_flag false n = λ a. absurd (false≢true (sym n ∙ a))

-- a number behind the last lags by something
pub behind_lags : (new last : ℕ) → Behind ≡ compared new last → 1 ≤ lag new last
behind_lags new last e = let s : 32768 ≤ lead new last = subst (Says (lead new last)) (sym e) (says new last) in omega arith

-- as the code knows it: by the kind that it was told
pub newer_leads : (h : Record) (new : ℕ) → h.accepted ≡ true → Newer ≡ standing h new → 1 ≤ lead new h.last
newer_leads h new a e = subst (Tells h new) (sym e) (tells h new) a

pub late_within : (h : Record) (new : ℕ) → Late ≡ standing h new → (1 ≤ lag new h.last) × (lag new h.last ≤ 32)
late_within h new e = subst (Tells h new) (sym e) (tells h new)

module _ (h : Record) (number new : ℕ) where
  pub noted_beyond : number ≡ 4 → lost_after h ≡ noted h number new
  unfolding noted
  noted_beyond e = rw e

  pub noted_trailer : number ≡ 5 → lost_after h ≡ noted h number new
  unfolding noted
  noted_trailer e = rw e

  pub noted_other : number ≢ 4 → number ≢ 5 → number ≢ 0 → h ≡ noted h number new
  unfolding noted
  noted_other a b c = rw (ne_eqb number 4 a, ne_eqb number 5 b, ne_eqb number 0 c)

  pub noted_accepted : number ≡ 0 → counted_as h new (standing h new) ≡ noted h number new
  unfolding noted
  noted_accepted e = rw e
