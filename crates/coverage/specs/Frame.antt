-- A message sent in a frame, and what is answered to the slots that arrive (document 01, Block interleaver and frame). All of it speaks of the
-- promises of `send` and `receive`.
-- Assumes nothing.
use Rattle.std.specs.Prelude.{◌≡◌, Result, List, ℕ, ◌+◌, ◌-◌, ◌*◌, ◌/◌, ◌%◌, ◌≤◌, ◌<◌, length, T}
use Rattle.algebra.specs.Tests.{below}
use Rattle.algebra.specs.Lists.{tabulate, part}
use Rattle.frame.specs.Frame.{area_size, slot_count, payload_of, number_of, received_of}
use Rattle.frame.specs.Promises.{Sends, Receives}
use Rattle.frame.specs.declared.setting.Framing.{Framing}
use Rattle.frame.specs.declared.setting.SendError.{SendError}
use Rattle.frame.specs.declared.setting.ReceiveError.{ReceiveError}
use Rattle.frame.specs.declared.setting.Received.{Received}
use Rattle.coverage.specs.Channel.{Channel, end_to_end, Layout, AllWithin, OneRun}
use Rattle.coverage.specs.Each.{Each}

-- a frame's message, and whether it fits: a payload of at most A - 4 bytes, and a number of 16 bits
pub record Message : Type 0 where
  pub payload : List ℕ
  pub sequence : ℕ

pub record Fits (f : Framing) (m : Message) : Type 0 where
  pub short : length m.payload ≤ area_size f - 4
  pub bytes : T (below 256 m.payload)
  pub number : m.sequence < 65536

-- ---- sending

-- slots that meet the promise of `send`, called with a message that fits and any n·J slots
pub record FrameSent (f : Framing) (m : Message) (slots : List ℕ) : Type 0 where
  pub fits : Fits f m
  pub lent : List ℕ
  pub lent_size : length lent ≡ slot_count f
  pub answer : Result (Unit {0}) SendError
  pub promise : Sends f m.payload m.sequence lent answer slots

-- ---- on the channel

-- the J words of a frame: byte i of word w is in slot i·J + w
abbrev pub in_frame : Framing → Layout
in_frame f = record { words = f.depth; n = f.n; r = f.r; slot = λ w i. i * f.depth + w }

-- those of frames that come one after the other: word w is word w mod J of frame w / J
abbrev pub in_frames : Framing → ℕ → Layout
in_frames f many = record { words = many * f.depth; n = f.n; r = f.r; slot = λ w i. i * f.depth + (w / f.depth * slot_count f + w % f.depth) }

-- what arrives of a frame: slots and their marks
pub record Frame : Type 0 where
  pub slots : List ℕ
  pub marks : List ℕ

-- a message was sent, and with every word within the bound it arrives as this frame
pub record Arrives (f : Framing) (m : Message) (frame : Frame) : Type 0 where
  pub sent : List ℕ
  pub sending : FrameSent f m sent
  pub channel : Channel (slot_count f) frame.slots frame.marks
  pub within : AllWithin (in_frame f) sent frame.slots frame.marks

-- messages were sent in frames one after the other, and with one run in all their slots and no other damage they arrive in these
pub record StreamArrives (f : Framing) (messages : List Message) (slots marks : List ℕ) : Type 0 where
  pub sent : List (List ℕ)
  pub sending : Each (FrameSent f) messages sent
  pub channel : Channel (length messages * slot_count f) slots marks
  pub run : OneRun f.depth (in_frames f (length messages)) (end_to_end sent) slots marks

-- ---- receiving

-- the first frames of such slots
abbrev pub frames_of : Framing → ℕ → (slots marks : List ℕ) → List Frame
frames_of f many slots marks = tabulate many λ i. record { slots = part (slot_count f) i slots; marks = part (slot_count f) i marks }

-- an answer of `receive` with the area and the map it leaves; it meets the promise for a frame, any lent area of A bytes and any map of n·J marks
pub record Answer : Type 0 where
  pub received : Result Received ReceiveError
  pub area : List ℕ
  pub map : List ℕ

pub record Answers (f : Framing) (frame : Frame) (a : Answer) : Type 0 where
  pub lent : List ℕ
  pub lent_size : length lent ≡ area_size f
  pub lent_map : List ℕ
  pub map_size : length lent_map ≡ slot_count f
  pub promise : Receives f frame.slots frame.marks lent lent_map a.received a.area a.map

-- the frame is accepted, with the message's payload and sequence number
pub record ComesBack (m : Message) (a : Answer) : Type 0 where
  pub number : number_of a.received ≡ 0
  pub payload : payload_of a.received a.area ≡ m.payload
  pub sequence : (received_of a.received).sequence ≡ m.sequence
