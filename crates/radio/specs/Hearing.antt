-- The receiver's whole call for C (document 01, Receiver's record): what is seen of record and answer after a frame, what hearing promises,
-- and that no call has a second answer.
-- Assumes nothing.
use Rattle.std.specs.Prelude.{◌≡◌, List, ℕ, Result}
use Rattle.std.proofs.Common.{ap, ap₂}
use Rattle.record.specs.declared.Record.{Record}
use Rattle.frame.specs.declared.setting.Received.{Received}
use Rattle.frame.specs.declared.setting.ReceiveError.{ReceiveError}
use Rattle.link.specs.Promises.{Hears, hears_once}
use Rattle.link.specs.declared.hearing.Heard.{Heard}
use Rattle.radio.specs.Shown.{Shows, shown_once}
use Rattle.radio.specs.Frames.{framing_of, frame_seen}
use Rattle.radio.specs.declared.frames.FrameSetting.{FrameSetting}
use Rattle.radio.specs.declared.frames.FrameAnswer.{FrameAnswer}
use Rattle.radio.specs.Records.{record_of, record_seen}
use Rattle.radio.specs.declared.records.LentRecord.{LentRecord}
use Rattle.radio.specs.declared.hearing.HeardAnswer.{HeardAnswer}

-- record and answer after a frame, with the record that was lent and the area that is left
abbrev pub both_seen : LentRecord → FrameAnswer → HeardAnswer
both_seen next answer = record { next = next; answer = answer }

abbrev pub heard_seen : LentRecord → List ℕ → Heard (Result Received ReceiveError) → HeardAnswer
heard_seen before area t = both_seen (record_seen before t.next) (frame_seen area t.answer)

-- `yaxo_hear` answers this, and `yaxo_hear_in` leaves the record and answers the rest
abbrev pub Hear : LentRecord → FrameSetting → (slots marks area map : List ℕ) → HeardAnswer → (left left_map : List ℕ) → Type 0
Hear h s slots marks area map r left left_map = Shows (heard_seen h left) (λ t. Hears (record_of h) (framing_of s) slots marks area map t.answer t.next left left_map) r

-- no second answer, and nothing else is left in the lent record, area and map
pub hear_once : (h : LentRecord) (s : FrameSetting) (slots marks area map : List ℕ) (r q : HeardAnswer) (x y x' y' : List ℕ)
    → Hear h s slots marks area map r x x' → Hear h s slots marks area map q y y' → (r ≡ q) × (x ≡ y) × (x' ≡ y')
hear_once h s slots marks area map r q x y x' y' p u =
    let (a, n, l, m) = hears_once p.promised u.promised in
    (shown_once p u (ap (heard_seen h) l) (ap₂ (λ (k : Record) (t : _). record { next = k; answer = t }) n a), l, m)
