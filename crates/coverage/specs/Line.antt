-- Messages sent over a delay line, and what is answered to the words that leave it (document 01, Delay line). All of it speaks of the
-- promises of `encode`, of the line's calls and of `decode` and `decode_part`.
-- Assumes nothing.
use Rattle.std.specs.Prelude.{◌≡◌, Result, List, [], ◌∷◌, ◌++◌, ℕ, ◌+◌, ◌-◌, ◌*◌, ◌%◌, length, take, replicate, T}
use Rattle.algebra.specs.Tests.{at, below}
use Rattle.algebra.specs.Lists.{tabulate}
use Rattle.word.specs.Setting.{allowed, message_size}
use Rattle.word.specs.Answers.{number_of}
use Rattle.word.specs.Promises.{Encodes, Decodes, DecodesPart}
use Rattle.word.specs.declared.Setting.{Setting}
use Rattle.word.specs.declared.InputError.{InputError}
use Rattle.word.specs.declared.DecodeError.{DecodeError}
use Rattle.word.specs.declared.Figures.{Figures}
use Rattle.interleave.specs.Setting as L
use Rattle.interleave.specs.Setting.{memory_size, line_at}
use Rattle.interleave.specs.Promises.{Ready, SentAnswer, ReceivedAnswer, line_after, line_after_sent, line_after_received, byte_sent, byte_received, mark_received, FreshSender, SendStep, SendRun, FreshReceiver, ReceiveStep, ReceiveRun}
use Rattle.interleave.specs.declared.line.Line.{Line}
use Rattle.coverage.specs.Channel.{Channel, end_to_end, Layout, AllWithin}
use Rattle.coverage.specs.Each.{Each}

-- ---- the setting

-- I branches, unit M, and n, r and b of the words; symbols are bytes
pub record LineSetting : Type 0 where
  pub branches : ℕ
  pub unit : ℕ
  pub n : ℕ
  pub r : ℕ
  pub b : ℕ

abbrev pub code_of : LineSetting → Setting
code_of l = record { m = 8; n = l.n; r = l.r; b = l.b }

-- the limits of the line, and of its words
pub record LineAllowed (l : LineSetting) : Type 0 where
  pub line : L.Setting l.branches l.unit l.n
  pub code : T (allowed (code_of l))

-- the steps from the sender's input to the receiver's output: (I - 1)·M·I
abbrev pub delay : LineSetting → ℕ
delay l = (l.branches - 1) * l.unit * l.branches

-- ---- sending

-- a line's message is k bytes; its word meets the promise of `encode`, called with any n bytes to write to
pub record WordSent (l : LineSetting) (message word : List ℕ) : Type 0 where
  pub size : length message ≡ message_size (code_of l)
  pub bytes : T (below 256 message)
  pub lent : List ℕ
  pub lent_size : length lent ≡ l.n
  pub answer : Result (Unit {0}) InputError
  pub promise : Encodes (code_of l) message lent answer word

-- the words end to end from step 0, then zeros until the last word has left
abbrev pub fed : LineSetting → List (List ℕ) → List ℕ
fed l words = end_to_end words ++ replicate (delay l) 0

-- calls on a sender one after the other, each `send_step` with a byte or `send_run` over some: the line and memory they start from, the
-- bytes they take in, and those they give
pub data SenderCalls : Line → List ℕ → List ℕ → List ℕ → Type 0 where
  none : {l : Line} {m : List ℕ} → SenderCalls l m [] []
  step : {l : Line} {m : List ℕ} {b : ℕ} {r : SentAnswer} {left bs out : List ℕ} → SendStep l m b r left → SenderCalls (line_after_sent l r) left bs out → SenderCalls l m (b ∷ bs) (byte_sent r ∷ out)
  run : {l : Line} {m given : List ℕ} {r : Ready} {left back bs out : List ℕ} → SendRun l m given r left back → SenderCalls (line_after l r) left bs out → SenderCalls l m (given ++ bs) (back ++ out)

-- slots that meet the promises of `fresh_sender` and of any such calls after it
pub record LineSent (l : LineSetting) (bytes slots : List ℕ) : Type 0 where
  pub lent : List ℕ
  pub lent_size : length lent ≡ memory_size l.branches l.unit
  pub ready : Ready
  pub memory : List ℕ
  pub fresh : FreshSender l.branches l.unit l.n lent ready memory
  pub calls : SenderCalls (line_after (line_at l.branches l.unit l.n 0) ready) memory bytes slots

-- ---- on the line

-- place p of word w, the words put in end to end from step 0: it is held back by p mod I units
unfoldable pub slot_of : LineSetting → ℕ → ℕ → ℕ
slot_of l w p = w * l.n + p + p % l.branches * l.unit * l.branches

-- the first words on a line
abbrev pub on_line : LineSetting → ℕ → Layout
on_line l many = record { words = many; n = l.n; r = l.r; slot = slot_of l }

-- messages were encoded and sent, and with every word within the bound they arrive in these slots with these marks
pub record LineArrives (l : LineSetting) (messages : List (List ℕ)) (slots marks : List ℕ) : Type 0 where
  pub words : List (List ℕ)
  pub encoding : Each (WordSent l) messages words
  pub sent : List ℕ
  pub sending : LineSent l (fed l words) sent
  pub channel : Channel (length (fed l words)) slots marks
  pub within : AllWithin (on_line l (length messages)) sent slots marks

-- ---- receiving

-- calls on a receiver: besides, the memory of marks they start from, the marks they take in, as many as bytes, and those they give
pub data ReceiverCalls : Line → List ℕ → List ℕ → List ℕ → List ℕ → List ℕ → List ℕ → Type 0 where
  none : {l : Line} {m ms : List ℕ} → ReceiverCalls l m ms [] [] [] []
  step : {l : Line} {m ms : List ℕ} {b k : ℕ} {r : ReceivedAnswer} {left held bs ks out flags : List ℕ} → ReceiveStep l m ms b k r left held
      → ReceiverCalls (line_after_received l r) left held bs ks out flags → ReceiverCalls l m ms (b ∷ bs) (k ∷ ks) (byte_received r ∷ out) (mark_received r ∷ flags)
  run : {l : Line} {m ms given marks : List ℕ} {r : Ready} {left held back back_marks bs ks out flags : List ℕ} → length marks ≡ length given
      → ReceiveRun l m ms given marks r left held back back_marks → ReceiverCalls (line_after l r) left held bs ks out flags
      → ReceiverCalls l m ms (given ++ bs) (marks ++ ks) (back ++ out) (back_marks ++ flags)

-- bytes and marks that meet the promises of `fresh_receiver` and of any such calls after it
pub record LineReceived (l : LineSetting) (slots marks bytes flags : List ℕ) : Type 0 where
  pub lent : List ℕ
  pub lent_size : length lent ≡ memory_size l.branches l.unit
  pub lent_marks : List ℕ
  pub marks_size : length lent_marks ≡ memory_size l.branches l.unit
  pub ready : Ready
  pub memory : List ℕ
  pub held : List ℕ
  pub fresh : FreshReceiver l.branches l.unit l.n lent lent_marks ready memory held
  pub calls : ReceiverCalls (line_after (line_at l.branches l.unit l.n 0) ready) memory held slots marks bytes flags

-- word w as it leaves the receiver: each byte a delay after it was put in
abbrev pub leaving : LineSetting → List ℕ → ℕ → List ℕ
leaving l bytes w = tabulate l.n λ p. at bytes (w * l.n + p + delay l)

-- a word is accepted with this message
pub record Accepted (message : List ℕ) (d : Result Figures DecodeError) (given : List ℕ) : Type 0 where
  pub number : number_of d ≡ 0
  pub as_sent : given ≡ message

-- and it is so by every answer that meets the promise of `decode`, whose word begins with the message, or that of `decode_part` into any k bytes,
-- with any map of n marks
pub record WordComesBack (l : LineSetting) (message received marks : List ℕ) : Type 0 where
  pub in_place : (lent_map : List ℕ) → length lent_map ≡ l.n → (d : Result Figures DecodeError) (word map : List ℕ) → Decodes (code_of l) received marks lent_map d word map
      → Accepted message d (take (message_size (code_of l)) word)
  pub to_part : (lent_map : List ℕ) → length lent_map ≡ l.n → (d : Result Figures DecodeError) (lent part map : List ℕ) → length lent ≡ message_size (code_of l)
      → DecodesPart (code_of l) received marks lent lent_map d part map → Accepted message d part
