-- The answers of choosing one by one: where one copy is refused, where both are, and where both are accepted.
-- Assumes nothing.
use Rattle.std.specs.Prelude.{◌≡◌, refl, Bool, true, false, not, ◌≢◌, Some, None, Result, Ok, Err, List, [], ℕ, zero, suc, ◌≤◌, ◌<◌, leb, eqb, if◌then◌else◌}
use Rattle.std.proofs.Common.{◌∙◌, arith}
use Rattle.std.proofs.Math.Decide.{ℕ_discrete, dec_le}
use borrow.Author.Tests.{eq-eqb, ne_eqb, le-leb, lt-leb}
use Rattle.algebra.specs.Tests.{total}
use Rattle.algebra.specs.Refusal.{if_zero, new, kept}
use Rattle.word.specs.declared.Figures.{Figures}
use Rattle.frame.specs.Frame.{ReceiveOutcome, receive_outcome, refused_frame, error_number, payload_of}
use Rattle.frame.specs.Receiving.{refusal_some}
use Rattle.frame.specs.declared.setting.ReceiveError.{ReceiveError}
use Rattle.frame.specs.declared.setting.Received.{Received}
use Rattle.link.specs.Masts.{damage_at, damage, Left, left_by, MastsOutcome, giving, both_accepted, choosing, Chooses}
use Rattle.link.specs.declared.choice.Mast.TheVariants.{First, Second}
use Rattle.link.specs.declared.choice.Chosen.{Chosen}
use Rattle.link.specs.declared.choice.MastsError.{MastsError}
use Rattle.link.specs.declared.choice.MastsError.TheVariants.{Refused, Differ}

-- the sum, where it has reached the end
pub damage_to : (figures : List Figures) (w : ℕ) → w ≡ 16 → total w (damage_at figures) ≡ damage figures
unfolding damage
damage_to figures w e = rw e

-- ---- which copy

module _ (a b : ReceiveOutcome) where
  pub choosing_first : a.number ≡ 0 → b.number ≢ 0 → giving a b (Some First) a ≡ choosing a b
  unfolding choosing
  choosing_first z n = kept b.number _ _ n ∙ new a.number _ _ z

  pub choosing_second : a.number ≢ 0 → b.number ≡ 0 → giving a b (Some Second) b ≡ choosing a b
  unfolding choosing
  choosing_second n z = new b.number _ _ z ∙ kept a.number _ _ n

  pub choosing_neither : a.number ≢ 0 → b.number ≢ 0 → giving a b None a ≡ choosing a b
  unfolding choosing
  choosing_neither n m = kept b.number _ _ m ∙ kept a.number _ _ n

  module _ (z : a.number ≡ 0) (y : b.number ≡ 0) where
    choosing_accepted : both_accepted a b ≡ choosing a b
    unfolding choosing
    choosing_accepted = new b.number _ _ y ∙ new a.number _ _ z

    pub choosing_differ : a.sequence ≢ b.sequence → giving a b None (refused_frame 8 0 [] []) ≡ choosing a b
    unfolding both_accepted
    choosing_differ n =
        let e : giving a b None (refused_frame 8 0 [] []) ≡ both_accepted a b = rw (ne_eqb a.sequence b.sequence n) in
        e ∙ choosing_accepted

    pub choosing_better_first : a.sequence ≡ b.sequence → damage a.figures ≤ damage b.figures → giving a b (Some First) a ≡ choosing a b
    unfolding both_accepted
    choosing_better_first s l =
        let e : giving a b (Some First) a ≡ both_accepted a b = rw (eq-eqb a.sequence b.sequence s, le-leb (damage a.figures) (damage b.figures) l) in
        e ∙ choosing_accepted

    pub choosing_better_second : a.sequence ≡ b.sequence → damage b.figures < damage a.figures → giving a b (Some Second) b ≡ choosing a b
    unfolding both_accepted
    choosing_better_second s l =
        let e : giving a b (Some Second) b ≡ both_accepted a b = rw (eq-eqb a.sequence b.sequence s, lt-leb (damage a.figures) (damage b.figures) l) in
        e ∙ choosing_accepted

  -- ---- the areas and the maps

  -- each is left as its own copy's call leaves it, whatever the other copy is and whichever is used
  abbrev OwnLeft : MastsOutcome → Type 0
  OwnLeft o = (o.first ≡ left_by a) × (o.second ≡ left_by b)

  own_if_zero : (n : ℕ) (x y : MastsOutcome) → OwnLeft x → OwnLeft y → OwnLeft (if_zero n x y)
  own_if_zero zero x y p q = p
  own_if_zero (suc n) x y p q = q

  own_if : (t : Bool) (x y : MastsOutcome) → OwnLeft x → OwnLeft y → OwnLeft (if t then x else y)
  own_if true x y p q = p
  own_if false x y p q = q

  pub own_left : OwnLeft (choosing a b)
  unfolding choosing both_accepted
  own_left =
      own_if_zero a.number _ _
      (own_if_zero b.number _ _
      (own_if (not (eqb a.sequence b.sequence)) _ _ (refl, refl) (own_if (leb (damage a.figures) (damage b.figures)) _ _ (refl, refl) (refl, refl)))
      (refl, refl))
      (own_if_zero b.number _ _ (refl, refl) (refl, refl))

-- ---- the code's answers

-- a copy's answer with what it leaves
abbrev told : Result Received ReceiveError → Left → ReceiveOutcome
told r l = receive_outcome r l.area l.map

refused_some : (e : ReceiveError) → error_number e ≢ 0
refused_some e z = absurd (omega (arith, refusal_some e))

-- one is refused, or both
pub chooses_first : (a : Received) (e : ReceiveError) → Chooses (Ok a) (Err e) (Ok (record { mast = First; copy = a }))
chooses_first a e = record { outcome = λ x y. choosing_first (told (Ok a) x) (told (Err e) y) refl (refused_some e) }

pub chooses_second : (e : ReceiveError) (b : Received) → Chooses (Err e) (Ok b) (Ok (record { mast = Second; copy = b }))
chooses_second e b = record { outcome = λ x y. choosing_second (told (Err e) x) (told (Ok b) y) (refused_some e) refl }

pub chooses_neither : (e d : ReceiveError) → Chooses (Err e) (Err d) (Err (Refused e))
unfolding payload_of
chooses_neither e d = record { outcome = λ x y. choosing_neither (told (Err e) x) (told (Err d) y) (refused_some e) (refused_some d) }

-- both are accepted
module _ (a b : Received) where
  pub chooses_differ : a.sequence ≢ b.sequence → Chooses (Ok a) (Ok b) (Err Differ)
  chooses_differ n = record { outcome = λ x y. choosing_differ (told (Ok a) x) (told (Ok b) y) refl refl n }

  module _ (e : a.sequence ≡ b.sequence) where
    pub chooses_better_first : damage a.figures ≤ damage b.figures → Chooses (Ok a) (Ok b) (Ok (record { mast = First; copy = a }))
    chooses_better_first l = record { outcome = λ x y. choosing_better_first (told (Ok a) x) (told (Ok b) y) refl refl e l }

    pub chooses_better_second : damage b.figures < damage a.figures → Chooses (Ok a) (Ok b) (Ok (record { mast = Second; copy = b }))
    chooses_better_second l = record { outcome = λ x y. choosing_better_second (told (Ok a) x) (told (Ok b) y) refl refl e l }

-- there is always an answer
pub some_choice : (a b : Result Received ReceiveError) → (r : Result Chosen MastsError) × Chooses a b r
some_choice (Ok a) (Ok b) = elim (ℕ_discrete a.sequence b.sequence) [
  | yes e ↦ elim (dec_le (damage a.figures) (damage b.figures)) [
    | yes l ↦ (_, chooses_better_first a b e l)
    | no n ↦ (_, chooses_better_second a b e (omega arith))
  ]
  | no n ↦ (_, chooses_differ a b n)
]
some_choice (Ok a) (Err e) = (_, chooses_first a e)
some_choice (Err e) (Ok b) = (_, chooses_second e b)
some_choice (Err e) (Err d) = (_, chooses_neither e d)
