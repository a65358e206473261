-- Document 01, "Block interleaver and frame" and "Numbers a call can answer", and document 02, No. 6: a frame's limits, its message area, and what
-- sending and receiving answer and leave, for every input.
-- Assumes nothing.
use Rattle.std.specs.Prelude.{Bool, true, false, ◌&&◌, not, Result, Ok, Err, List, [], ◌∷◌, ◌++◌, ℕ, ◌+◌, ◌-◌, ◌*◌, ◌/◌, ◌%◌, length, take, drop, replicate, leb, ltb, eqb, if◌then◌else◌}
use Rattle.std.proofs.Math.Option.{Option, some, none, get_or}
use Rattle.std.proofs.Math.Decide.{ℕ_discrete, dec_le}
use Rattle.algebra.specs.Tests.{at, each, below, first_below}
use Rattle.algebra.specs.Lists.{tabulate, joined, part}
use Rattle.algebra.specs.Refusal.{need, if_zero, passes}
use Rattle.word.specs.Setting.{allowed, message_size}
use Rattle.word.specs.Map.{changes}
use Rattle.word.specs.Code.{encoded, corrected}
use Rattle.word.specs.Answers.{no_figures, figures}
use Rattle.word.specs.declared.Setting.{Setting}
use Rattle.word.specs.declared.Figures.{Figures}
use Rattle.interleave.specs.Block.{spread}
use Rattle.interleave.specs.Slots.{word_in}
use Rattle.frame.specs.declared.setting.Framing.{Framing}
use Rattle.frame.specs.declared.setting.SendError.{SendError}
use Rattle.frame.specs.declared.setting.SendError.TheVariants as S
use Rattle.frame.specs.declared.setting.ReceiveError.{ReceiveError}
use Rattle.frame.specs.declared.setting.ReceiveError.TheVariants.{BadSetting, BadLength, BadMark, BeyondReach, BadTrailer}
use Rattle.frame.specs.declared.setting.Received.{Received}
pub mod Limits
pub mod Trailer

-- ---- the setting

-- a frame's words are of bytes
abbrev pub word_setting : Framing → Setting
word_setting f = record { m = 8; n = f.n; r = f.r; b = f.b }

-- n·J slots, and an area of A = J·k bytes
abbrev pub slot_count : Framing → ℕ
slot_count f = f.n * f.depth

abbrev pub area_size : Framing → ℕ
area_size f = f.depth * message_size (word_setting f)

-- the words' limits; J is 1 to 16, and A at least 4
unfoldable pub allowed_frame : Framing → Bool
allowed_frame f = allowed (word_setting f) && leb 1 f.depth && leb f.depth 16 && leb 4 (area_size f)

-- ---- the area

-- a number of 16 bits as two bytes, low first; and back
abbrev pub two : ℕ → List ℕ
two x = x % 256 ∷ x / 256 ∷ []

abbrev pub two_at : List ℕ → ℕ → ℕ
two_at area i = at area i + 256 * at area (i + 1)

-- the bytes from `start` on
abbrev pub area_byte : List ℕ → ℕ → ℕ → ℕ
area_byte area start i = at area (start + i)

-- `back`, then the sequence number
abbrev pub trailer : ℕ → ℕ → List ℕ
trailer back sequence = two back ++ two sequence

-- zeros, the payload, and the trailer, whose `back` is the payload's length
unfoldable pub area_sent : ℕ → List ℕ → ℕ → List ℕ
area_sent A payload sequence = replicate (A - 4 - length payload) 0 ++ payload ++ trailer (length payload) sequence

-- the first bytes are zeros
unfoldable pub zeros_before : ℕ → List ℕ → Bool
zeros_before end area = each end λ i. eqb (at area i) 0

-- back ≤ A - 4, and zeros before the payload
unfoldable pub trailer_good : ℕ → List ℕ → Bool
trailer_good A area = leb (two_at area (A - 4)) (A - 4) && zeros_before (A - 4 - two_at area (A - 4)) area

-- the `back` bytes that end four before the end; none where there are not so many
unfoldable pub payload_in : ℕ → List ℕ → List ℕ
payload_in back area = if leb (back + 4) (length area) then take back (drop (length area - 4 - back) area) else []

-- ---- sending

-- each word is the encoding of its part of the area, and the words are interleaved
unfoldable pub word_sent : Framing → List ℕ → ℕ → ℕ → List ℕ
word_sent f payload sequence w = encoded (word_setting f) (part (message_size (word_setting f)) w (area_sent (area_size f) payload sequence))

unfoldable pub slots_sent : Framing → List ℕ → ℕ → List ℕ
slots_sent f payload sequence = spread f.depth f.n (joined f.depth (word_sent f payload sequence))

-- what sending answers and leaves
pub record SendOutcome : Type 0 where
  pub number : ℕ
  pub slots : List ℕ

abbrev pub sent_number : Result (Unit {0}) SendError → ℕ
sent_number (Ok u) = 0
sent_number (Err S.BadSetting) = 1
sent_number (Err S.BadLength) = 2
sent_number (Err S.LongPayload) = 6

-- the answer that has this number
abbrev pub sent_as : ℕ → Result (Unit {0}) SendError
sent_as k = if eqb k 0 then Ok tt else if eqb k 1 then Err S.BadSetting else if eqb k 2 then Err S.BadLength else Err S.LongPayload

abbrev pub send_outcome : Result (Unit {0}) SendError → List ℕ → SendOutcome
send_outcome d slots = record { number = sent_number d; slots = slots }

-- checked in the order 1, 2, 6; 0 where all are passed
unfoldable pub send_refusal : Framing → (payload slots : List ℕ) → ℕ
send_refusal f payload slots =
    need (passes (allowed_frame f)) 1
    (need (ℕ_discrete (length slots) (slot_count f)) 2
    (need (dec_le (length payload) (area_size f - 4)) 6 0))

-- a refusal leaves the slots
unfoldable pub sending : Framing → (payload : List ℕ) (sequence : ℕ) (slots : List ℕ) → SendOutcome
sending f payload sequence slots =
    let k = send_refusal f payload slots in
    if_zero k (record { number = 0; slots = slots_sent f payload sequence }) (record { number = k; slots = slots })

-- ---- receiving

abbrev pub is_none : Option (List ℕ) → Bool
is_none none = true
is_none (some c) = false

module _ (f : Framing) (slots marks : List ℕ) where
  -- word w as received, its marks, and what it is corrected to
  abbrev pub received_word : ℕ → List ℕ
  received_word w = word_in f.depth f.n slots w

  abbrev pub received_marks : ℕ → List ℕ
  received_marks w = word_in f.depth f.n marks w

  unfoldable pub corrected_word : ℕ → Option (List ℕ)
  corrected_word w = corrected (word_setting f) (received_marks w) (received_word w)

  abbrev pub word_of : ℕ → List ℕ
  word_of w = get_or (corrected_word w) []

  -- its k message bytes, and its e, f and bits
  unfoldable pub message_of : ℕ → List ℕ
  message_of w = take (message_size (word_setting f)) (word_of w)

  unfoldable pub figures_at : ℕ → Figures
  figures_at w = figures (received_marks w) (received_word w) (word_of w)

  -- where it was changed
  unfoldable pub changes_at : ℕ → List ℕ
  changes_at w = changes (received_word w) (word_of w)

  -- the first word that is beyond reach; J where all are within
  unfoldable pub beyond : ℕ
  beyond = first_below f.depth λ w. is_none (corrected_word w)

  -- the words' messages, word 0 first
  unfoldable pub area_received : List ℕ
  area_received = joined f.depth message_of

  -- the figures of each word, and zeros past J
  unfoldable pub figures_received : List Figures
  figures_received = tabulate 16 λ w. if ltb w f.depth then figures_at w else no_figures

  -- the words' maps, each place in its slot
  unfoldable pub map_received : List ℕ
  map_received = spread f.depth f.n (joined f.depth changes_at)

-- what receiving answers and leaves
pub record ReceiveOutcome : Type 0 where
  pub number : ℕ
  pub word : ℕ
  pub sequence : ℕ
  pub back : ℕ
  pub figures : List Figures
  pub area : List ℕ
  pub payload : List ℕ
  pub map : List ℕ

abbrev pub refused_frame : ℕ → ℕ → (area map : List ℕ) → ReceiveOutcome
refused_frame k w area map = record { number = k; word = w; sequence = 0; back = 0; figures = replicate 16 no_figures; area = area; payload = []; map = map }

-- a frame whose words are all within reach: 5, or what its trailer says
unfoldable pub settled : ℕ → List Figures → (area map : List ℕ) → ReceiveOutcome
settled A figures area map =
    if not (trailer_good A area) then refused_frame 5 0 (replicate A 0) (replicate (length map) 0) else
    record {
      number = 0;
      word = 0;
      sequence = two_at area (A - 2);
      back = two_at area (A - 4);
      figures = figures;
      area = area;
      payload = payload_in (two_at area (A - 4)) area;
      map = map;
    }

-- a frame that passes the checks: 4 where a word is beyond reach
unfoldable pub decoded_frame : Framing → (slots marks : List ℕ) → ReceiveOutcome
decoded_frame f slots marks =
    if ltb (beyond f slots marks) f.depth then refused_frame 4 (beyond f slots marks) (replicate (area_size f) 0) (replicate (slot_count f) 0) else
    settled (area_size f) (figures_received f slots marks) (area_received f slots marks) (map_received f slots marks)

-- checked in the order 1, 2, 3; 0 where all are passed
unfoldable pub receive_refusal : Framing → (slots marks area map : List ℕ) → ℕ
receive_refusal f slots marks area map =
    need (passes (allowed_frame f)) 1
    (need (ℕ_discrete (length slots) (slot_count f)) 2 (need (ℕ_discrete (length marks) (slot_count f)) 2 (need (ℕ_discrete (length area) (area_size f)) 2
    (need (ℕ_discrete (length map) (slot_count f)) 2 (need (passes (below 2 marks)) 3 0)))))

-- these refusals leave the area and the map
unfoldable pub receiving : Framing → (slots marks area map : List ℕ) → ReceiveOutcome
receiving f slots marks area map =
    let k = receive_refusal f slots marks area map in
    if_zero k (decoded_frame f slots marks) (refused_frame k 0 area map)

-- ---- the code's answer in this paper's terms

-- the number of a refusal
abbrev pub error_number : ReceiveError → ℕ
error_number BadSetting = 1
error_number BadLength = 2
error_number BadMark = 3
error_number (BeyondReach w) = 4
error_number BadTrailer = 5

-- the refused word, where the refusal is 4
abbrev pub error_word : ReceiveError → ℕ
error_word BadSetting = 0
error_word BadLength = 0
error_word BadMark = 0
error_word (BeyondReach w) = w
error_word BadTrailer = 0

abbrev pub number_of : {A : Type 0} → Result A ReceiveError → ℕ
number_of (Ok r) = 0
number_of (Err e) = error_number e

abbrev pub word_number : Result Received ReceiveError → ℕ
word_number (Ok r) = 0
word_number (Err e) = error_word e

-- an answer without its numbers, and the one that has this number and this word
abbrev pub verdict_of : {A : Type 0} → Result A ReceiveError → Result (Unit {0}) ReceiveError
verdict_of (Ok r) = Ok tt
verdict_of (Err e) = Err e

abbrev pub verdict_as : (number word : ℕ) → Result (Unit {0}) ReceiveError
verdict_as k w =
    if eqb k 0 then Ok tt else if eqb k 1 then Err BadSetting else if eqb k 2 then Err BadLength else if eqb k 3 then Err BadMark else
    if eqb k 4 then Err (BeyondReach w) else Err BadTrailer

-- a refused frame has no numbers beside these
abbrev pub no_numbers : Received
no_numbers = record { sequence = 0; back = 0; figures = replicate 16 no_figures }

abbrev pub received_of : Result Received ReceiveError → Received
received_of (Ok r) = r
received_of (Err e) = no_numbers

-- the part of the area that an answer hands back
unfoldable pub payload_of : Result Received ReceiveError → List ℕ → List ℕ
payload_of (Ok r) area = payload_in r.back area
payload_of (Err e) area = []

-- an answer with what it leaves in the area and in the map
abbrev pub receive_outcome : Result Received ReceiveError → (area map : List ℕ) → ReceiveOutcome
receive_outcome r area map = record {
  number = number_of r;
  word = word_number r;
  sequence = (received_of r).sequence;
  back = (received_of r).back;
  figures = (received_of r).figures;
  area = area;
  payload = payload_of r area;
  map = map;
}

-- the whole area and the payload, as one call hands both back
abbrev pub handed_back : ReceiveOutcome → List (List ℕ)
handed_back o = o.area ∷ o.payload ∷ []
