-- A message heard by two masts (document 02, No. 1): its copies, and what both are answered together. All of it speaks of the promises of the
-- calls.
-- Assumes nothing.
use Rattle.std.specs.Prelude.{◌≡◌, Result, ◌⊎◌, ◌≢◌, length}
use Rattle.frame.specs.Frame.{area_size, slot_count, number_of}
use Rattle.frame.specs.Promises.{Receives}
use Rattle.frame.specs.declared.setting.Framing.{Framing}
use Rattle.record.specs.declared.Record.{Record}
use Rattle.link.specs.Masts.{Copy, Left, masts_number, chosen_of, payload_of_used}
use Rattle.link.specs.Promises.{ReceivesMasts, HearsMasts}
use Rattle.link.specs.declared.choice.Chosen.{Chosen}
use Rattle.link.specs.declared.choice.MastsError.{MastsError}
use Rattle.coverage.specs.Frame.{Message, Frame, Arrives, Answer, ComesBack}

-- ---- one copy

abbrev pub frame_of : Copy → Frame
frame_of c = record { slots = c.slots; marks = c.marks }

-- it meets its proviso: the message arrives in it with every word within the bound, and an area of A bytes and a map of n·J marks are lent for it
pub record CopyArrives (f : Framing) (m : Message) (c : Copy) : Type 0 where
  pub arrives : Arrives f m (frame_of c)
  pub room : length c.area ≡ area_size f
  pub map_room : length c.map ≡ slot_count f

-- its own call answers so
abbrev pub Alone : Framing → Copy → Answer → Type 0
Alone f c a = Receives f c.slots c.marks c.area c.map a.received a.area a.map

-- it is refused, by any number
pub record Refused (f : Framing) (c : Copy) : Type 0 where
  pub answer : Answer
  pub promise : Alone f c answer
  pub number : number_of answer.received ≢ 0

-- it returns this message's frame, whatever damage it took
pub record Returned (f : Framing) (m : Message) (c : Copy) : Type 0 where
  pub answer : Answer
  pub promise : Alone f c answer
  pub back : ComesBack m answer

-- ---- two copies

pub record Copies : Type 0 where
  pub first : Copy
  pub second : Copy

-- either copy meets its proviso, and the other is refused or returns the same frame
abbrev pub MastsArrive : Framing → Message → Copies → Type 0
MastsArrive f m c =
    (CopyArrives f m c.first × (Refused f c.second ⊎ Returned f m c.second))
    ⊎ (CopyArrives f m c.second × (Refused f c.first ⊎ Returned f m c.first))

-- ---- the answer to both

-- with what it leaves for the two copies
pub record MastsAnswer : Type 0 where
  pub chosen : Result Chosen MastsError
  pub first : Left
  pub second : Left

-- it meets the promise of `receive_masts`; ..
abbrev pub MastsAnswers : Framing → Copies → MastsAnswer → Type 0
MastsAnswers f c a = ReceivesMasts f c.first c.second a.chosen a.first a.second

-- .. that of `hear_masts` and `hear_masts_in`, which also leaves a record
abbrev pub MastsHeard : Record → Framing → Copies → MastsAnswer → Record → Type 0
MastsHeard before f c a next = HearsMasts before f c.first c.second a.chosen next a.first a.second

-- a frame is handed back, with the message's payload and sequence number
pub record MastsBack (m : Message) (a : MastsAnswer) : Type 0 where
  pub number : masts_number a.chosen ≡ 0
  pub payload : payload_of_used a.chosen a.first.area a.second.area ≡ m.payload
  pub sequence : (chosen_of a.chosen).sequence ≡ m.sequence
