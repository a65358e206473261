-- What the calls of the link promise of their answers and of all that was lent to them, and that no second answer meets it (document 01, What
-- each call owes its caller). `send`, `receive` and `payload` promise what frame says, and `note` what record says.
-- Assumes nothing.
use Rattle.std.specs.Prelude.{◌≡◌, refl, Option, Some, None, Result, Ok, Err, List, ℕ, eqb, if◌then◌else◌}
use Rattle.std.proofs.Common.{sym, ap, ap₂, ◌∙◌}
use Rattle.frame.specs.Frame.{handed_back, receiving, number_of, received_of}
use Rattle.frame.specs.Promises.{Receives, receives_once}
use Rattle.record.specs.Promises.{Notes}
use Rattle.link.specs.Receiver.{HearOutcome, hear_outcome, hearing}
use Rattle.link.specs.Masts.{Copy, alone, Left, left_by, MastsOutcome, choosing, masts_number, chosen_of, chosen_outcome, Chooses, receiving_masts, HearMastsOutcome, hear_masts_outcome, hearing_masts, handed_back_masts, payload_of_used}
use Rattle.link.specs.Masts.Laws.{own_left}
use Rattle.link.specs.Replay.{ReplayOutcome, replay_number, frames_heard, replay_outcome, replaying}
use Rattle.link.specs.declared.choice.Mast.{Mast}
use Rattle.link.specs.declared.choice.Chosen.{Chosen}
use Rattle.link.specs.declared.choice.MastsError.{MastsError}
use Rattle.link.specs.declared.choice.MastsError.TheVariants.{Refused, Differ}
use Rattle.link.specs.declared.replaying.ReplayError.{ReplayError}
use Rattle.link.specs.declared.replaying.ReplayError.TheVariants as P
use Rattle.word.specs.declared.Figures.{Figures}
use Rattle.frame.specs.declared.setting.Framing.{Framing}
use Rattle.frame.specs.declared.setting.ReceiveError.{ReceiveError}
use Rattle.frame.specs.declared.setting.ReceiveError.TheVariants.{BadSetting, BadLength, BadMark, BeyondReach, BadTrailer}
use Rattle.frame.specs.declared.setting.Received.{Received}
use Rattle.record.specs.declared.Record.{Record}

-- `receive_part`: the whole area and the payload, and what is left in the map
pub record ReceivesPart (f : Framing) (slots marks area map : List ℕ) (parts : List (List ℕ)) (left_map : List ℕ) : Type 0 where
  pub outcome : parts ≡ handed_back (receiving f slots marks area map)
  pub mapped : left_map ≡ (receiving f slots marks area map).map

pub receives_part_once : {f : Framing} {slots marks area map : List ℕ} {p q : List (List ℕ)} {u v : List ℕ}
    → ReceivesPart f slots marks area map p u → ReceivesPart f slots marks area map q v → (p ≡ q) × (u ≡ v)
receives_part_once p q = (p.outcome ∙ sym q.outcome, p.mapped ∙ sym q.mapped)

-- `hear` gives this answer and this record, and `hear_in` leaves the record where the old one stood
pub record Hears (before : Record) (f : Framing) (slots marks area map : List ℕ) (answer : Result Received ReceiveError) (next : Record) (left left_map : List ℕ) : Type 0 where
  pub outcome : hear_outcome answer next left left_map ≡ hearing before f slots marks area map

pub hears_once : {before : Record} {f : Framing} {slots marks area map : List ℕ} {r s : Result Received ReceiveError} {n m : Record} {x y u v : List ℕ}
    → Hears before f slots marks area map r n x u → Hears before f slots marks area map s m y v → (r ≡ s) × (n ≡ m) × (x ≡ y) × (u ≡ v)
unfolding hearing
hears_once p q =
    let (a, b, c) = receives_once (record { outcome = ap (λ (o : HearOutcome). o.frame) p.outcome }) (record { outcome = ap (λ (o : HearOutcome). o.frame) q.outcome }) in
    (a, ap (λ (o : HearOutcome). o.next) (p.outcome ∙ sym q.outcome), b, c)

-- hearing is receiving, and noting the number and sequence number that the frame was answered
pub received_and_noted : {before : Record} {f : Framing} {slots marks area map : List ℕ} {answer : Result Received ReceiveError} {number sequence : ℕ} {next : Record} {left left_map : List ℕ}
    → Receives f slots marks area map answer left left_map → number ≡ number_of answer → sequence ≡ (received_of answer).sequence → Notes before number sequence next
    → Hears before f slots marks area map answer next left left_map
unfolding hearing
received_and_noted e k q n = record { outcome = rw (sym e.outcome, n.outcome, k, q) }

-- ---- a morning's frames

-- `replay` gives this answer and this record, and `replay_in` leaves the record where the old one stood
pub record Replays (before : Record) (f : Framing) (slots marks areas maps results : List ℕ) (answer : Result ℕ ReplayError) (next : Record) (left left_maps left_results : List ℕ) : Type 0 where
  pub outcome : replay_outcome answer next left left_maps left_results ≡ replaying before f slots marks areas maps results

-- the answer that has these numbers
replayed_as : (number frames : ℕ) → Result ℕ ReplayError
replayed_as k frames = if eqb k 0 then Ok frames else if eqb k 1 then Err P.BadSetting else Err P.BadLength

replayed_as_lem : (r : Result ℕ ReplayError) → replayed_as (replay_number r) (frames_heard r) ≡ r
unfolding replayed_as
replayed_as_lem (Ok frames) = refl
replayed_as_lem (Err P.BadSetting) = refl
replayed_as_lem (Err P.BadLength) = refl

pub replays_once : {before : Record} {f : Framing} {slots marks areas maps results : List ℕ} {r s : Result ℕ ReplayError} {n m : Record} {x y u v p q : List ℕ}
    → Replays before f slots marks areas maps results r n x u p → Replays before f slots marks areas maps results s m y v q → (r ≡ s) × (n ≡ m) × (x ≡ y) × (u ≡ v) × (p ≡ q)
replays_once {r = r} {s = s} h k =
    let same = h.outcome ∙ sym k.outcome in (
      sym (replayed_as_lem r) ∙ ap (λ (o : ReplayOutcome). replayed_as o.number o.frames) same ∙ replayed_as_lem s,
      ap (λ (o : ReplayOutcome). o.next) same,
      ap (λ (o : ReplayOutcome). o.areas) same,
      ap (λ (o : ReplayOutcome). o.maps) same,
      ap (λ (o : ReplayOutcome). o.results) same,
    )

-- ---- two masts

-- `receive_masts`
pub record ReceivesMasts (f : Framing) (first second : Copy) (answer : Result Chosen MastsError) (left_first left_second : Left) : Type 0 where
  pub outcome : chosen_outcome answer left_first left_second ≡ receiving_masts f first second

-- the answer that has these numbers
masts_error_as : (number word : ℕ) → MastsError
masts_error_as k w =
    if eqb k 1 then Refused BadSetting else if eqb k 2 then Refused BadLength else if eqb k 3 then Refused BadMark else
    if eqb k 4 then Refused (BeyondReach w) else if eqb k 5 then Refused BadTrailer else Differ

chosen_as : Option Mast → (number word sequence back : ℕ) → List Figures → Result Chosen MastsError
chosen_as (Some mast) k w sequence back figures = Ok (record { mast = mast; copy = record { sequence = sequence; back = back; figures = figures } })
chosen_as None k w sequence back figures = Err (masts_error_as k w)

abbrev masts_as : MastsOutcome → Result Chosen MastsError
masts_as o = chosen_as o.mast o.number o.word o.sequence o.back o.figures

masts_as_lem : (r : Result Chosen MastsError) (x y : Left) → masts_as (chosen_outcome r x y) ≡ r
unfolding chosen_as masts_error_as
masts_as_lem (Ok c) x y = refl
masts_as_lem (Err (Refused BadSetting)) x y = refl
masts_as_lem (Err (Refused BadLength)) x y = refl
masts_as_lem (Err (Refused BadMark)) x y = refl
masts_as_lem (Err (Refused (BeyondReach w))) x y = refl
masts_as_lem (Err (Refused BadTrailer)) x y = refl
masts_as_lem (Err Differ) x y = refl

pub receives_masts_once : {f : Framing} {first second : Copy} {r s : Result Chosen MastsError} {x y x' y' : Left}
    → ReceivesMasts f first second r x x' → ReceivesMasts f first second s y y' → (r ≡ s) × (x ≡ y) × (x' ≡ y')
receives_masts_once {r = r} {s = s} {x = x} {y = y} {x' = x'} {y' = y'} p q =
    let same = p.outcome ∙ sym q.outcome in (
      sym (masts_as_lem r x x') ∙ ap masts_as same ∙ masts_as_lem s y y',
      ap (λ (o : MastsOutcome). o.first) same,
      ap (λ (o : MastsOutcome). o.second) same,
    )

-- `masts_payload`
pub record HandsBackOne (first second : List ℕ) (answer : Result Chosen MastsError) (part : List ℕ) : Type 0 where
  pub outcome : part ≡ payload_of_used answer first second

pub hands_back_one_once : {first second : List ℕ} {answer : Result Chosen MastsError} {x y : List ℕ} → HandsBackOne first second answer x → HandsBackOne first second answer y → x ≡ y
hands_back_one_once p q = p.outcome ∙ sym q.outcome

-- `receive_masts_part`: both whole areas and the payload, and what is left in the maps
pub record ReceivesMastsPart (f : Framing) (first second : Copy) (parts : List (List ℕ)) (first_map second_map : List ℕ) : Type 0 where
  pub outcome : parts ≡ handed_back_masts (receiving_masts f first second)
  pub mapped : (first_map ≡ (receiving_masts f first second).first.map) × (second_map ≡ (receiving_masts f first second).second.map)

pub receives_masts_part_once : {f : Framing} {first second : Copy} {p q : List (List ℕ)} {x y x' y' : List ℕ}
    → ReceivesMastsPart f first second p x x' → ReceivesMastsPart f first second q y y' → (p ≡ q) × (x ≡ y) × (x' ≡ y')
receives_masts_part_once p q = (p.outcome ∙ sym q.outcome, p.mapped.0 ∙ sym q.mapped.0, p.mapped.1 ∙ sym q.mapped.1)

-- `hear_masts` gives this answer and this record, and `hear_masts_in` leaves the record where the old one stood
pub record HearsMasts (before : Record) (f : Framing) (first second : Copy) (answer : Result Chosen MastsError) (next : Record) (left_first left_second : Left) : Type 0 where
  pub outcome : hear_masts_outcome answer next left_first left_second ≡ hearing_masts before f first second

pub hears_masts_once : {before : Record} {f : Framing} {first second : Copy} {r s : Result Chosen MastsError} {n m : Record} {x y x' y' : Left}
    → HearsMasts before f first second r n x x' → HearsMasts before f first second s m y y' → (r ≡ s) × (n ≡ m) × (x ≡ y) × (x' ≡ y')
unfolding hearing_masts
hears_masts_once p q =
    let (a, b, c) = receives_masts_once (record { outcome = ap (λ (o : HearMastsOutcome). o.frame) p.outcome }) (record { outcome = ap (λ (o : HearMastsOutcome). o.frame) q.outcome }) in
    (a, ap (λ (o : HearMastsOutcome). o.next) (p.outcome ∙ sym q.outcome), b, c)

-- receiving two copies is receiving each, and choosing
pub each_received : {f : Framing} {first second : Copy} {a b : Result Received ReceiveError} {answer : Result Chosen MastsError} {x y : Left}
    → Receives f first.slots first.marks first.area first.map a x.area x.map → Receives f second.slots second.marks second.area second.map b y.area y.map
    → Chooses a b answer → ReceivesMasts f first second answer x y
unfolding receiving_masts
each_received {x = x} {y = y} p q e = record { outcome = e.outcome x y ∙ ap₂ choosing p.outcome q.outcome }

-- hearing them is receiving both, and noting once the number and sequence number that are handed back
pub masts_received_and_noted : {before : Record} {f : Framing} {first second : Copy} {answer : Result Chosen MastsError} {number sequence : ℕ} {next : Record} {x y : Left}
    → ReceivesMasts f first second answer x y → number ≡ masts_number answer → sequence ≡ (chosen_of answer).sequence → Notes before number sequence next
    → HearsMasts before f first second answer next x y
unfolding hearing_masts
masts_received_and_noted e k q n = record { outcome = rw (sym e.outcome, n.outcome, k, q) }

-- each area and map is left as its copy's own call leaves it: a wrong length or mark in one copy never touches the other's
pub copies_apart : {f : Framing} {first second : Copy} {answer : Result Chosen MastsError} {x y : Left}
    → ReceivesMasts f first second answer x y → (x ≡ left_by (alone f first)) × (y ≡ left_by (alone f second))
unfolding receiving_masts
copies_apart {f = f} {first = first} {second = second} p =
    let (l, m) = own_left (alone f first) (alone f second) in
    (ap (λ (o : MastsOutcome). o.first) p.outcome ∙ l, ap (λ (o : MastsOutcome). o.second) p.outcome ∙ m)
