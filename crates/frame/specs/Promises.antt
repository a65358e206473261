-- What the calls on a frame promise (document 01, Block interleaver and frame; document 02, No. 9): the answer in the paper's terms, with what it leaves, is the
-- one that the paper gives. There is no second such answer.
-- Assumes nothing.
use Rattle.std.specs.Prelude.{◌≡◌, refl, Bool, Result, Ok, Err, Option, Some, None, List, ℕ, eqb, if◌then◌else◌}
use Rattle.std.proofs.Common.{sym, ap, ◌∙◌}
use Rattle.word.specs.declared.Figures.{Figures}
use Rattle.frame.specs.Frame.{allowed_frame, SendOutcome, sent_number, sent_as, send_outcome, sending, ReceiveOutcome, number_of, word_number, verdict_of, verdict_as, payload_of, receive_outcome, receiving}
use Rattle.frame.specs.Clean.{clean_number, is_yes, unclean_word, CleanOutcome, clean_outcome, cleanness}
use Rattle.frame.specs.declared.setting.Framing.{Framing}
use Rattle.frame.specs.declared.setting.SendError.{SendError}
use Rattle.frame.specs.declared.setting.SendError.TheVariants as S
use Rattle.frame.specs.declared.setting.ReceiveError.{ReceiveError}
use Rattle.frame.specs.declared.setting.ReceiveError.TheVariants.{BadSetting, BadLength, BadMark, BeyondReach, BadTrailer}
use Rattle.frame.specs.declared.setting.Received.{Received}
use Rattle.frame.specs.declared.clean.CleanError.{CleanError}
use Rattle.frame.specs.declared.clean.CleanError.TheVariants as C

-- `send`
pub record Sends (f : Framing) (payload : List ℕ) (sequence : ℕ) (slots : List ℕ) (d : Result (Unit {0}) SendError) (left : List ℕ) : Type 0 where
  pub outcome : send_outcome d left ≡ sending f payload sequence slots

-- `receive`
pub record Receives (f : Framing) (slots marks area map : List ℕ) (r : Result Received ReceiveError) (left left_map : List ℕ) : Type 0 where
  pub outcome : receive_outcome r left left_map ≡ receiving f slots marks area map

-- `payload`
pub record HandsBack (area : List ℕ) (answer : Result Received ReceiveError) (part : List ℕ) : Type 0 where
  pub outcome : part ≡ payload_of answer area

-- `is_clean`
pub record IsClean (f : Framing) (slots : List ℕ) (d : Result (Option ℕ) CleanError) : Type 0 where
  pub outcome : clean_outcome d ≡ cleanness f slots

-- ---- no second answer: what the paper's terms say of an answer leaves only one

-- `is_allowed`
pub frame_allowed_once : (f : Framing) (r s : Bool) → r ≡ allowed_frame f → s ≡ allowed_frame f → r ≡ s
frame_allowed_once f r s p q = cc

sent_as_lem : (d : Result (Unit {0}) SendError) → sent_as (sent_number d) ≡ d
sent_as_lem (Ok u) = refl
sent_as_lem (Err S.BadSetting) = refl
sent_as_lem (Err S.BadLength) = refl
sent_as_lem (Err S.LongPayload) = refl

pub sends_once : {f : Framing} {payload : List ℕ} {sequence : ℕ} {slots : List ℕ} {d e : Result (Unit {0}) SendError} {x y : List ℕ}
    → Sends f payload sequence slots d x → Sends f payload sequence slots e y → (d ≡ e) × (x ≡ y)
sends_once {d = d} {e = e} p q =
    let same = p.outcome ∙ sym q.outcome in
    (sym (sent_as_lem d) ∙ ap (λ (o : SendOutcome). sent_as o.number) same ∙ sent_as_lem e, ap (λ (o : SendOutcome). o.slots) same)

-- an answer's number and word give it back, without its numbers
pub verdict_as_lem : (r : Result Received ReceiveError) → verdict_as (number_of r) (word_number r) ≡ verdict_of r
verdict_as_lem (Ok r) = refl
verdict_as_lem (Err BadSetting) = refl
verdict_as_lem (Err BadLength) = refl
verdict_as_lem (Err BadMark) = refl
verdict_as_lem (Err (BeyondReach w)) = refl
verdict_as_lem (Err BadTrailer) = refl

-- the answer that has these numbers
pub received_as : (number word sequence back : ℕ) → List Figures → Result Received ReceiveError
received_as k w sequence back figures =
    if eqb k 0 then Ok (record { sequence = sequence; back = back; figures = figures }) else
    if eqb k 1 then Err BadSetting else if eqb k 2 then Err BadLength else if eqb k 3 then Err BadMark else if eqb k 4 then Err (BeyondReach w) else Err BadTrailer

abbrev pub outcome_as : ReceiveOutcome → Result Received ReceiveError
outcome_as o = received_as o.number o.word o.sequence o.back o.figures

pub received_as_lem : (r : Result Received ReceiveError) (area map : List ℕ) → outcome_as (receive_outcome r area map) ≡ r
unfolding received_as
received_as_lem (Ok r) area map = refl
received_as_lem (Err BadSetting) area map = refl
received_as_lem (Err BadLength) area map = refl
received_as_lem (Err BadMark) area map = refl
received_as_lem (Err (BeyondReach w)) area map = refl
received_as_lem (Err BadTrailer) area map = refl

pub receives_once : {f : Framing} {slots marks area map : List ℕ} {r s : Result Received ReceiveError} {x y u v : List ℕ}
    → Receives f slots marks area map r x u → Receives f slots marks area map s y v → (r ≡ s) × (x ≡ y) × (u ≡ v)
receives_once {r = r} {s = s} {x = x} {y = y} {u = u} {v = v} p q =
    let same = p.outcome ∙ sym q.outcome in (
      sym (received_as_lem r x u) ∙ ap outcome_as same ∙ received_as_lem s y v,
      ap (λ (o : ReceiveOutcome). o.area) same,
      ap (λ (o : ReceiveOutcome). o.map) same,
    )

pub hands_back_once : {area : List ℕ} {answer : Result Received ReceiveError} {x y : List ℕ} → HandsBack area answer x → HandsBack area answer y → x ≡ y
hands_back_once p q = p.outcome ∙ sym q.outcome

clean_as : ℕ → Bool → ℕ → Result (Option ℕ) CleanError
clean_as k b w = if eqb k 0 then if b then Ok None else Ok (Some w) else if eqb k 1 then Err C.BadSetting else Err C.BadLength

clean_as_lem : (d : Result (Option ℕ) CleanError) → clean_as (clean_number d) (is_yes d) (unclean_word d) ≡ d
unfolding clean_as
clean_as_lem (Ok None) = refl
clean_as_lem (Ok (Some w)) = refl
clean_as_lem (Err C.BadSetting) = refl
clean_as_lem (Err C.BadLength) = refl

pub is_clean_once : {f : Framing} {slots : List ℕ} {d e : Result (Option ℕ) CleanError} → IsClean f slots d → IsClean f slots e → d ≡ e
is_clean_once {d = d} {e = e} p q = sym (clean_as_lem d) ∙ ap (λ (o : CleanOutcome). clean_as o.number o.clean o.word) (p.outcome ∙ sym q.outcome) ∙ clean_as_lem e
