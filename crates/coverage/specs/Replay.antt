-- Frames that lie end to end and are heard by one call (document 02, No. 2). All of it speaks of the promise of `replay`.
-- Assumes nothing.
use Rattle.std.specs.Prelude.{◌≡◌, Result, List, ℕ, ◌+◌, ◌*◌, length}
use Rattle.algebra.specs.Tests.{at}
use Rattle.algebra.specs.Lists.{part}
use Rattle.frame.specs.Frame.{area_size, slot_count, payload_in}
use Rattle.frame.specs.declared.setting.Framing.{Framing}
use Rattle.record.specs.Record.{noted}
use Rattle.record.specs.declared.Record.{Record}
use Rattle.link.specs.Replay.{record_after}
use Rattle.link.specs.Promises.{Replays}
use Rattle.link.specs.declared.replaying.ReplayError.{ReplayError}
use Rattle.coverage.specs.Frame.{Message, Frame}

-- frame i of such slots
abbrev pub frame_at : Framing → ℕ → (slots marks : List ℕ) → Frame
frame_at f i slots marks = record { slots = part (slot_count f) i slots; marks = part (slot_count f) i marks }

-- the call with so many frames, any record, and any areas, maps and results of the lengths that go with them: what it answers and leaves meets its promise
pub record Called (f : Framing) (many : ℕ) (slots marks : List ℕ) : Type 0 where
  pub slots_size : length slots ≡ many * slot_count f
  pub marks_size : length marks ≡ many * slot_count f
  pub before : Record
  pub lent : List ℕ
  pub lent_size : length lent ≡ many * area_size f
  pub lent_maps : List ℕ
  pub maps_size : length lent_maps ≡ many * slot_count f
  pub lent_results : List ℕ
  pub results_size : length lent_results ≡ many * 52
  pub answer : Result ℕ ReplayError
  pub next : Record
  pub areas : List ℕ
  pub maps : List ℕ
  pub results : List ℕ
  pub promise : Replays before f slots marks lent lent_maps lent_results answer next areas maps results

-- the record after its first i frames
abbrev pub after : {f : Framing} {many : ℕ} {slots marks : List ℕ} → Called f many slots marks → ℕ → Record
after {f = f} {slots = slots} {marks = marks} c = record_after c.before f slots marks c.lent c.lent_maps

-- frame i is accepted, with the message's payload in its own area and the message's sequence number in its own place, and noted in its turn
pub record ComesBackAt (m : Message) {f : Framing} {many : ℕ} {slots marks : List ℕ} (c : Called f many slots marks) (i : ℕ) : Type 0 where
  pub number : at (part 52 i c.results) 0 ≡ 0
  pub sequence : at (part 52 i c.results) 2 ≡ m.sequence
  pub payload : payload_in (at (part 52 i c.results) 3) (part (area_size f) i c.areas) ≡ m.payload
  pub turn : after c (i + 1) ≡ noted (after c i) 0 m.sequence
