-- A message that two masts heard comes back: a copy that meets its proviso returns it alone, and choosing hands back that copy or one that returned
-- the same (document 02, No. 1).
-- Assumes nothing.
use Rattle.std.specs.Prelude.{◌≡◌, ◌≢◌, Option, Some, T}
use Rattle.std.proofs.Math.Path.{sym, ap}
use Rattle.std.proofs.Common.{ap₂, ◌∙◌, ⊎_elim, arith}
use Rattle.std.proofs.Math.Decide.{dec_le}
use Rattle.record.specs.Record.{noted}
use Rattle.frame.specs.Frame.{ReceiveOutcome, allowed_frame}
use Rattle.frame.specs.declared.setting.Framing.{Framing}
use Rattle.link.specs.Masts.{Copy, mast_of, left_of, alone, damage, MastsOutcome, giving, choosing, receiving_masts, HearMastsOutcome, hearing_masts}
use Rattle.link.specs.Masts.Laws.{choosing_first, choosing_second, choosing_better_first, choosing_better_second, some_choice}
use Rattle.link.specs.Promises.{each_received}
use Rattle.link.specs.declared.choice.Mast.{Mast}
use Rattle.link.specs.declared.choice.Mast.TheVariants.{First, Second}
use Rattle.coverage.specs.Each.{each_chain, each_once}
use Rattle.coverage.specs.Frame.{Message, Answer}
use Rattle.coverage.proofs.FrameBack.{answered_in, frame_comes_back}
use Rattle.coverage.specs.Masts.{frame_of, CopyArrives, Alone, Refused, Returned, Copies, MastsArrive, MastsAnswer, MastsAnswers, MastsBack}
use Rattle.coverage.specs.Coverage.{TwoMastsComeBack, TwoMastsNoted, NoTwoMastsAlike, RefusedTakesNothing}

-- ---- one copy, alone

-- what its own call gives: a frame with the message, ..
pub record Gives (m : Message) (o : ReceiveOutcome) : Type 0 where
  pub number : o.number ≡ 0
  pub payload : o.payload ≡ m.payload
  pub sequence : o.sequence ≡ m.sequence

module _ (f : Framing) (m : Message) (c : Copy) where
  gives : Returned f m c → Gives m (alone f c)
  gives r =
      let e = sym r.promise.outcome in
      record {
        number = ap (λ (o : ReceiveOutcome). o.number) e ∙ r.back.number;
        payload = ap (λ (o : ReceiveOutcome). o.payload) e ∙ r.back.payload;
        sequence = ap (λ (o : ReceiveOutcome). o.sequence) e ∙ r.back.sequence;
      }

  -- .. as a copy within its proviso does
  returns : T (allowed_frame f) → CopyArrives f m c → Returned f m c
  returns ok a =
      let (r, p) = answered_in f ok m a.arrives.sending.fits (frame_of c) a.arrives c.area c.map a.room a.map_room in
      record { answer = r; promise = p; back = frame_comes_back f ok m (frame_of c) r a.arrives (record { lent = c.area; lent_size = a.room; lent_map = c.map; map_size = a.map_room; promise = p }) }

-- .. or no frame
gives_none : (f : Framing) (c : Copy) → Refused f c → (alone f c).number ≢ 0
gives_none f c r z = r.number (ap (λ (o : ReceiveOutcome). o.number) r.promise.outcome ∙ z)

-- ---- both

module _ (f : Framing) (m : Message) (c : Copies) (a : MastsAnswer) (p : MastsAnswers f c a) where
  abbrev one : ReceiveOutcome
  one = alone f c.first

  abbrev other : ReceiveOutcome
  other = alone f c.second

  -- the answer is that of a copy that gives the message
  handed : (mast : Option Mast) (o : ReceiveOutcome) → Gives m o → giving one other mast o ≡ choosing one other → MastsBack m a × (mast_of a.chosen ≡ mast)
  unfolding receiving_masts
  handed mast o g e =
      let same = p.outcome ∙ sym e in (
        record {
          number = ap (λ (x : MastsOutcome). x.number) same ∙ g.number;
          payload = ap (λ (x : MastsOutcome). x.payload) same ∙ g.payload;
          sequence = ap (λ (x : MastsOutcome). x.sequence) same ∙ g.sequence;
        },
        ap (λ (x : MastsOutcome). x.mast) same,
      )

  first_alone : Gives m one → other.number ≢ 0 → MastsBack m a × (mast_of a.chosen ≡ Some First)
  first_alone g n = handed (Some First) one g (choosing_first one other g.number n)

  second_alone : Gives m other → one.number ≢ 0 → MastsBack m a × (mast_of a.chosen ≡ Some Second)
  second_alone g n = handed (Some Second) other g (choosing_second one other n g.number)

  either : Gives m one → Gives m other → MastsBack m a
  either g h =
      let s = g.sequence ∙ sym h.sequence in
      elim (dec_le (damage one.figures) (damage other.figures)) [
        | yes l ↦ (handed (Some First) one g (choosing_better_first one other g.number h.number s l)).0
        | no n ↦ (handed (Some Second) other h (choosing_better_second one other g.number h.number s (omega arith))).0
      ]

  back : T (allowed_frame f) → MastsArrive f m c → MastsBack m a
  back ok = ⊎_elim
      (λ h.
      let g = gives f m c.first (returns f m c.first ok h.0) in
      ⊎_elim (λ r. (first_alone g (gives_none f c.second r)).0) (λ r. either g (gives f m c.second r)) h.1)
      (λ h.
      let g = gives f m c.second (returns f m c.second ok h.0) in
      ⊎_elim (λ r. (second_alone g (gives_none f c.first r)).0) (λ r. either (gives f m c.first r) g) h.1)

pub two_masts_come_back : TwoMastsComeBack
two_masts_come_back f ok = each_chain (MastsArrive f) (MastsAnswers f) MastsBack λ m c a h p. back f m c a p ok h

pub refused_takes_nothing : RefusedTakesNothing
refused_takes_nothing f ok m c a p = (
  λ h r. first_alone f m c a p (gives f m c.first (returns f m c.first ok h)) (gives_none f c.second r),
  λ h r. second_alone f m c a p (gives f m c.second (returns f m c.second ok h)) (gives_none f c.first r),
)

-- ---- the record

pub two_masts_noted : TwoMastsNoted
unfolding hearing_masts
two_masts_noted f ok m c a before next h p =
    let b = back f m c a (record { outcome = ap (λ (o : HearMastsOutcome). o.frame) p.outcome }) ok h in
    let frame = ap (λ (o : HearMastsOutcome). o.frame) p.outcome in (
      b,
      ap (λ (o : HearMastsOutcome). o.next) p.outcome
          ∙ ap₂ (noted before) (sym (ap (λ (o : MastsOutcome). o.number) frame) ∙ b.number) (sym (ap (λ (o : MastsOutcome). o.sequence) frame) ∙ b.sequence),
    )

-- ---- no two alike: one answer to both copies would have to give both messages

some_answer : (f : Framing) (m : Message) (c : Copies) → T (allowed_frame f) → MastsArrive f m c → (a : MastsAnswer) × MastsAnswers f c a
some_answer f m c ok = ⊎_elim
    (λ h. let r = returns f m c.first ok h.0 in ⊎_elim (λ s. answered r.promise s.promise) (λ s. answered r.promise s.promise) h.1)
    (λ h. let r = returns f m c.second ok h.0 in ⊎_elim (λ s. answered s.promise r.promise) (λ s. answered s.promise r.promise) h.1)
  where
    answered : {r s : Answer} → Alone f c.first r → Alone f c.second s → (a : MastsAnswer) × MastsAnswers f c a
    answered {r} {s} p q =
        let (t, e) = some_choice r.received s.received in
        (record { chosen = t; first = left_of r.area r.map; second = left_of s.area s.map }, each_received p q e)

once : (f : Framing) → T (allowed_frame f) → (m n : Message) (c : Copies) → MastsArrive f m c → MastsArrive f n c → m ≡ n
once f ok m n c g h =
    let (a, p) = some_answer f m c ok g in
    let x : MastsBack m a = back f m c a p ok g in
    let y : MastsBack n a = back f n c a p ok h in
    λ i. record { payload = (sym x.payload ∙ y.payload) i; sequence = (sym x.sequence ∙ y.sequence) i }

pub no_two_masts_alike : NoTwoMastsAlike
no_two_masts_alike f ok ms ns copies = each_once (MastsArrive f) (once f ok) copies ms ns
