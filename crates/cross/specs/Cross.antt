-- The cross line (document 01, Cross line): its two codes, its delays, its positions, and what becomes of a frame, both ways.
-- Assumes nothing.
use Rattle.std.specs.Prelude.{Bool, Result, Ok, Err, List, ℕ, ◌+◌, ◌*◌, ◌%◌, length, replicate, take, eqb, if◌then◌else◌}
use Rattle.std.proofs.Math.Decide.{ℕ_discrete, dec_lt}
use Rattle.algebra.specs.Sets.{put}
use Rattle.algebra.specs.Tests.{at, below}
use Rattle.algebra.specs.Lists.{tabulate}
use Rattle.algebra.specs.Refusal.{need, first, if_zero, passes}
use Rattle.rings.specs.Rings.{order}
use Rattle.rings.specs.Run.{Ran, run}
use Rattle.word.specs.Answers.{DecodeOutcome, no_figures, encoding, decoding_part}
use Rattle.word.specs.declared.Setting.{Setting}
use Rattle.word.specs.declared.Figures.{Figures}
use Rattle.cross.specs.Numbers.{cross_number, taken_number, taken_figures}
use Rattle.cross.specs.declared.position.CrossError.{CrossError}
use Rattle.cross.specs.declared.position.NoMessage.{NoMessage}
use Rattle.cross.specs.declared.position.NoMessage.TheVariants.{NotYet, BeyondReach}
use Rattle.cross.specs.declared.position.Received.{Received}

-- ---- the two codes: symbols are bytes, r = 4, b = 0

-- 24 bytes become an outer word of 28, check bytes last, ..
abbrev pub outer_code : Setting
outer_code = record { m = 8; n = 28; r = 4; b = 0 }

-- .. and 28 bytes an inner word of 32
abbrev pub inner_code : Setting
inner_code = record { m = 8; n = 32; r = 4; b = 0 }

-- the words that the promise of `encode` gives; the inner one is written over a lent word
unfoldable pub outer_word : List ℕ → List ℕ
outer_word message = (encoding outer_code message (replicate 28 0)).word

unfoldable pub inner_word : List ℕ → List ℕ → List ℕ
inner_word bytes lent = (encoding inner_code bytes lent).word

-- ---- the delays: those of a delay line of 28 branches and unit 4, a frame being 28 steps of it

-- after so many frames every ring is where it was: 4 times the least number that each of 1 to 27 divides
abbrev pub cycle : ℕ
cycle = 321253732800

-- the steps of a frame at position p: each of its bytes goes into its ring, byte i into that of i units, or back at the receiver of 27 - i
unfoldable pub turned : Bool → ℕ → List ℕ → List ℕ → Ran
turned back p m bytes = run (order back 28) 28 4 (cycle * 28) (p % cycle * 28) m (tabulate 28 (at bytes))

-- the 28 bytes that are due, and the memory after the frame
abbrev pub due : Bool → ℕ → List ℕ → List ℕ → List ℕ
due back p m bytes = (turned back p m bytes).out

abbrev pub stored : Bool → ℕ → List ℕ → List ℕ → List ℕ
stored back p m bytes = (turned back p m bytes).memory

-- ---- the position: a sender's starts again at 0, a receiver's runs through 0 to 107 once, so that it says also whether a message is due

-- the position after p: `once` positions come once only, and after the last of all comes the first of the others
unfoldable pub after : ℕ → ℕ → ℕ
after once p = put (ℕ_discrete (p + 1) (once + cycle)) once (p + 1)

-- ---- the inner word at the receiver: decoded with no marks into its own first 28 bytes, which stay as received where it is refused

-- with a map of zeros, as any other that is lent gives the same
unfoldable pub opened : List ℕ → DecodeOutcome
opened word = decoding_part inner_code word (replicate 32 0) (take 28 word) (replicate 32 0)

-- the bytes that go on, and the mark of each: 1 where the word is refused
abbrev pub passed_on : List ℕ → List ℕ
passed_on word = (opened word).word

abbrev pub mark_of : List ℕ → ℕ
mark_of word = if_zero (opened word).number 0 1

abbrev pub marks_of : List ℕ → List ℕ
marks_of word = replicate 28 (mark_of word)

-- the map of the frame, a mark for each of the 32 places: 1 where the word was changed, and all 0 where it is refused (document 02, No. 6)
abbrev pub map_of : List ℕ → List ℕ
map_of word = (opened word).map

-- ---- the outer word at the receiver: its message and figures, or 4 and zeros; its own map is not told

-- what a frame is answered, with the message bytes that it leaves
pub record FrameOutcome : Type 0 where
  pub number : ℕ
  pub figures : Figures
  pub message : List ℕ

abbrev pub without_figures : ℕ → List ℕ → FrameOutcome
without_figures k message = record { number = k; figures = no_figures; message = message }

abbrev pub or_zeros : DecodeOutcome → FrameOutcome
or_zeros o = if_zero o.number (record { number = 0; figures = o.figures; message = o.word }) (without_figures 4 (replicate 24 0))

unfoldable pub closed : List ℕ → List ℕ → List ℕ → FrameOutcome
closed bytes marks message = or_zeros (decoding_part outer_code bytes marks message (replicate 28 0))

-- what a frame is answered that is taken at position p: 7 for the first 108, whatever their words are
unfoldable pub settled : ℕ → List ℕ → List ℕ → List ℕ → FrameOutcome
settled p bytes marks message = put (dec_lt p 108) (without_figures 7 message) (closed bytes marks message)

-- the figures of a frame that was taken, or why it gives no message, by the number that it is answered
abbrev pub told : FrameOutcome → Result Figures NoMessage
told o = if_zero o.number (Ok o.figures) (Err (if eqb o.number 7 then NotYet else BeyondReach))

-- and in this paper's terms, with the message bytes that it leaves
abbrev pub frame_outcome : Result Figures NoMessage → List ℕ → FrameOutcome
frame_outcome r message = record { number = taken_number r; figures = taken_figures r; message = message }

-- an answer of the code in this paper's terms, with the message bytes it leaves
abbrev pub received : Result Received CrossError → List ℕ → FrameOutcome
received (Ok r) message = frame_outcome r.figures message
received (Err e) message = without_figures (cross_number e) message

-- ---- the refusals, in the paper's order: the position 1, each length 2, a mark above 1 in the memory of marks 3

unfoldable pub send_refusal : ℕ → ℕ → ℕ → ℕ → ℕ
send_refusal p memory message word =
    need (dec_lt p cycle) 1 (need (ℕ_discrete memory 1512) 2 (need (ℕ_discrete message 24) 2 (need (ℕ_discrete word 32) 2 0)))

abbrev pub size_refusal : ℕ → ℕ
size_refusal memory = need (ℕ_discrete memory 1512) 2 0

unfoldable pub fresh_refusal : ℕ → ℕ → ℕ
fresh_refusal memory held = need (ℕ_discrete memory 1512) 2 (need (ℕ_discrete held 1512) 2 0)

unfoldable pub receive_refusal : ℕ → ℕ → List ℕ → ℕ → ℕ → ℕ → ℕ
receive_refusal p memory held word message map =
    need (dec_lt p (108 + cycle)) 1
    (first (fresh_refusal memory (length held))
    (need (ℕ_discrete word 32) 2 (need (ℕ_discrete message 24) 2 (need (ℕ_discrete map 32) 2 (need (passes (below 2 held)) 3 0)))))
