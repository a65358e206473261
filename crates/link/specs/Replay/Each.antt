-- What the promise of a replay says of each frame: it is heard as `hear` hears it, in its own part of all that lies end to end. proofs/Each.antt
-- proves that it says so. Assumes nothing.
use Rattle.std.specs.Prelude.{◌≡◌, Result, List, [], ℕ, ◌+◌, ◌<◌}
use Rattle.algebra.specs.Lists.{part}
use Rattle.frame.specs.Frame.{slot_count, area_size, receive_outcome}
use Rattle.frame.specs.declared.setting.Framing.{Framing}
use Rattle.frame.specs.declared.setting.ReceiveError.{ReceiveError}
use Rattle.frame.specs.declared.setting.Received.{Received}
use Rattle.record.specs.declared.Record.{Record}
use Rattle.link.specs.Replay.{frames_in, record_after, result_of, replay_number, frames_heard}
use Rattle.link.specs.Promises.{Hears, Replays}
use Rattle.link.specs.declared.replaying.ReplayError.{ReplayError}

module _ {before : Record} {f : Framing} {slots marks areas maps results : List ℕ} {replayed : Result ℕ ReplayError} {next : Record} {left left_maps left_results : List ℕ}
    (p : Replays before f slots marks areas maps results replayed next left left_maps left_results) where
  abbrev after : ℕ → Record
  after = record_after before f slots marks areas maps

  -- frame i is heard as `hear` hears it, with the record that those before it left, and its result is that answer
  pub record FrameHeard (i : ℕ) : Type 0 where
    pub answer : Result Received ReceiveError
    pub hears : Hears (after i) f (part (slot_count f) i slots) (part (slot_count f) i marks) (part (area_size f) i areas) (part (slot_count f) i maps) answer (after (i + 1)) (part (area_size f) i left) (part (slot_count f) i left_maps)
    pub result : part 52 i left_results ≡ result_of (receive_outcome answer [] [])

  -- all of them, and the last one leaves the record that goes back
  pub record EachHeard : Type 0 where
    pub number : replay_number replayed ≡ 0
    pub count : frames_heard replayed ≡ frames_in f slots
    pub last : next ≡ after (frames_in f slots)
    pub each : (i : ℕ) → i < frames_in f slots → FrameHeard i
