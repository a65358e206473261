-- A morning's frames for C (document 02, No. 2): what is seen of record and answer, what the calls promise, and that no call has a second answer.
-- Assumes nothing.
use Rattle.std.specs.Prelude.{◌≡◌, refl, Result, List, ℕ}
use Rattle.std.proofs.Common.{ap₂}
use Rattle.record.specs.declared.Record.{Record}
use Rattle.link.specs.Replay.{replay_number, frames_heard}
use Rattle.link.specs.Promises.{Replays, replays_once}
use Rattle.link.specs.declared.replaying.ReplayError.{ReplayError}
use Rattle.link.specs.declared.hearing.Heard.{Heard}
use Rattle.radio.specs.Shown.{Shows, shown_once}
use Rattle.radio.specs.Frames.{framing_of}
use Rattle.radio.specs.declared.frames.FrameSetting.{FrameSetting}
use Rattle.radio.specs.Records.{record_of, record_seen}
use Rattle.radio.specs.declared.records.LentRecord.{LentRecord}
use Rattle.radio.specs.declared.replaying.ReplayedAnswer.{ReplayedAnswer}
use Rattle.radio.specs.declared.replaying.ReplayAnswer.{ReplayAnswer}

abbrev pub replayed_seen : Result ℕ ReplayError → ReplayedAnswer
replayed_seen t = record { answer = replay_number t; frames = frames_heard t }

-- record and answer after the frames, with the record that was lent
abbrev pub both_replayed_seen : LentRecord → ReplayedAnswer → ReplayAnswer
both_replayed_seen next answer = record { next = next; answer = answer }

abbrev pub replay_seen : LentRecord → Heard (Result ℕ ReplayError) → ReplayAnswer
replay_seen before t = both_replayed_seen (record_seen before t.next) (replayed_seen t.answer)

-- `yaxo_replay` answers this, and `yaxo_replay_in` leaves the record and answers the rest
abbrev pub Replay : LentRecord → FrameSetting → (slots marks areas maps results : List ℕ) → ReplayAnswer → (left left_maps left_results : List ℕ) → Type 0
Replay h s slots marks areas maps results r left left_maps left_results =
    Shows (replay_seen h) (λ t. Replays (record_of h) (framing_of s) slots marks areas maps results t.answer t.next left left_maps left_results) r

-- no second answer, and nothing else is left in the lent record, areas, maps and results
pub replay_once : (h : LentRecord) (s : FrameSetting) (slots marks areas maps results : List ℕ) (r q : ReplayAnswer) (x y x' y' x'' y'' : List ℕ)
    → Replay h s slots marks areas maps results r x x' x'' → Replay h s slots marks areas maps results q y y' y'' → (r ≡ q) × (x ≡ y) × (x' ≡ y') × (x'' ≡ y'')
replay_once h s slots marks areas maps results r q x y x' y' x'' y'' p u =
    let (a, n, l, m, o) = replays_once p.promised u.promised in
    (shown_once p u refl (ap₂ (λ (k : Record) (t : Result ℕ ReplayError). record { next = k; answer = t }) n a), l, m, o)
