-- The demand is not empty: here are a frame, its copies at two masts, two frames end to end and a delay line that it speaks of.
-- Assumes nothing.
use Rattle.std.specs.Prelude.{◌≡◌, refl, Ok, Err, Bool, true, false, ◌&&◌, ◌||◌, List, [], ◌∷◌, ℕ, zero, suc, ◌+◌, T, eqb, leb, ltb, length, replicate}
use Rattle.std.proofs.Common.{sym, inl, arith, lit≤, eqb→eq, leb→le, ltb→lt}
use Rattle.std.proofs.Math.Decide.{ℕ_discrete}
use Rattle.algebra.specs.Xor.{◌⊕◌}
use Rattle.algebra.specs.Tests.{at, total, each, each_at, below, and_left, and_right}
use Rattle.algebra.specs.Lists.{tabulate, joined}
use Rattle.algebra.specs.Refusal.{passes as decided, need_yes, need_no}
use Rattle.field.specs.Field.{times, reduce, product, power}
use Rattle.field.specs.Answers.{is_field}
use Rattle.word.specs.Setting.{allowed}
use Rattle.word.specs.Word.{value_from, error_of, errors, marked}
use Rattle.word.specs.Codeword.{is_codeword}
use Rattle.word.specs.Code.{encoded}
use Rattle.word.specs.Code.Laws.{encoded_only}
use Rattle.word.specs.Met.{encode_done}
use Rattle.rings.specs.Delay.{answer, memory, position, line_out, line_kept}
use Rattle.rings.specs.Rings.{ring, tri}
use Rattle.interleave.specs.Line.{period, common}
use Rattle.frame.specs.Frame.{allowed_frame, receive_refusal}
use Rattle.frame.specs.Receiving.{receive_refused}
use Rattle.frame.specs.FrameExample.{example, slots_out, slots_in, sent_example}
use Rattle.frame.specs.declared.setting.ReceiveError.TheVariants.{BadLength}
use Rattle.coverage.specs.Channel.{end_to_end, Layout, OnWords, AllWithin, Struck, OneRun}
use Rattle.coverage.specs.Frame.{Message, FrameSent, in_frame, in_frames, Frame, Arrives, StreamArrives}
use Rattle.link.specs.Masts.{copy_of}
use Rattle.coverage.specs.Masts.{Refused, Copies, MastsArrive}
use Rattle.coverage.specs.Line.{LineSetting, code_of, LineAllowed, WordSent, fed, LineSent, slot_of, on_line, LineArrives}
use Rattle.coverage.proofs.RunsCovered.{line_run_within}
use Rattle.coverage.proofs.LineBack.{line_sent}

-- ---- a run, tested slot by slot

unless : (a b : Bool) → T (a || b) → ¬ T a → T b
unless true b t out = absurd (out tt)
unless false b t out = t

module _ (y : Layout) (start size : ℕ) (sent slots marks : List ℕ) where
  abbrev hit : ℕ → Bool
  hit s = leb start s && ltb s (start + size)

  abbrev passes : ℕ → Bool
  passes s = eqb (at marks s) 0 && (hit s || eqb (at slots s) (at sent s))

  struck_by : T (each y.words λ w. each y.n λ p. passes (y.slot w p)) → Struck y ((start, size) ∷ []) sent slots marks
  struck_by t = record {
    unmarked = λ w p h l. eqb→eq _ _ (and_left (eqb (at marks (y.slot w p)) 0) _ (test w p h l));
    clean = λ w p h l out.
        let s : ℕ = y.slot w p in
        eqb→eq _ _ (unless (hit s) _ (and_right (eqb (at marks s) 0) _ (test w p h l))
        λ u. out (inl (leb→le start s (and_left (leb start s) _ u), ltb→lt s (start + size) (and_right (leb start s) _ u))));
  }
    where
      test : OnWords y λ s. T (passes s)
      test w p h l = each_at y.n (λ p. passes (y.slot w p)) (each_at y.words (λ w. each y.n λ p. passes (y.slot w p)) t w h) p l

-- ---- the frame of the bench reader's example (document 01, Worked table), whose slots 2 and 3 were 65 and 2: one wrong symbol in each word

abbrev frame : Frame
frame = record { slots = slots_in; marks = replicate 10 0 }

one_each : AllWithin (in_frame example) slots_out frame.slots frame.marks
unfolding errors marked error_of total tabulate
one_each zero h = lit≤ tt
one_each (suc zero) h = lit≤ tt
one_each (suc (suc w)) h = absurd (omega arith)

abbrev message : Message
message = record { payload = 65 ∷ []; sequence = 258 }

frame_sent : FrameSent example message slots_out
unfolding below
frame_sent = record {
  fits = record { short = lit≤ tt; bytes = tt; number = lit≤ tt };
  lent = replicate 10 0;
  lent_size = refl;
  answer = Ok tt;
  promise = record { outcome = sym sent_example };
}

pub frame_arrives : Arrives example message frame
unfolding below
frame_arrives = record {
  sent = slots_out;
  sending = frame_sent;
  channel = record { slots_size = refl; marks_size = refl; bytes = tt; zero_or_one = tt };
  within = one_each;
}

-- that frame at the first mast, while the second has received nothing at all and is refused 2

abbrev copies : Copies
copies = record { first = copy_of slots_in (replicate 10 0) (replicate 6 0) (replicate 10 0); second = copy_of [] [] [] [] }

second_refused : Refused example copies.second
unfolding receive_refusal allowed_frame allowed is_field
second_refused = record {
  answer = record { received = Err BadLength; area = []; map = [] };
  promise = receive_refused example [] [] [] [] BadLength (need_yes (decided (allowed_frame example)) 1 _ 2 tt (need_no (ℕ_discrete 0 10) 2 _ λ e. absurd (omega arith)));
  number = λ e. absurd (omega arith);
}

pub masts_arrive : MastsArrive example message copies
masts_arrive = inl (record { arrives = frame_arrives; room = refl; map_room = refl }, inl second_refused)

-- the same frame twice, end to end, with a run of J·t = 2 slots across the border

abbrev stream : List ℕ
stream = 0 ∷ 0 ∷ 65 ∷ 2 ∷ 1 ∷ 1 ∷ 217 ∷ 13 ∷ 153 ∷ 9 ∷ 9 ∷ 0 ∷ 65 ∷ 2 ∷ 1 ∷ 1 ∷ 217 ∷ 13 ∷ 153 ∷ 14 ∷ []

pub frames_arrive : StreamArrives example (message ∷ message ∷ []) stream (replicate 20 0)
unfolding below joined each
frames_arrive = record {
  sent = slots_out ∷ slots_out ∷ [];
  sending = (frame_sent, (frame_sent, tt));
  channel = record { slots_size = refl; marks_size = refl; bytes = tt; zero_or_one = tt };
  run = record { start = 9; size = 2; short = lit≤ tt; alone = struck_by (in_frames example 2) 9 2 (end_to_end (slots_out ∷ slots_out ∷ [])) stream (replicate 20 0) tt };
}

-- ---- a line of I = 2 and M = 2 with two words of n = 4 and r = 2: a run of I·t = 2 slots strikes both words, and the four slots that carry
-- none, two before the first byte of branch 1 and two after the last of branch 0, hold something else and are marked

abbrev line : LineSetting
line = record { branches = 2; unit = 2; n = 4; r = 2; b = 0 }

pub line_allowed : LineAllowed line
unfolding allowed is_field
line_allowed = record {
  line = record { branches = (lit≤ tt, lit≤ tt); unit = (lit≤ tt, lit≤ tt); size = (lit≤ tt, lit≤ tt); whole = refl; room = lit≤ tt };
  code = tt;
}

abbrev messages : List (List ℕ)
messages = (1 ∷ 2 ∷ []) ∷ (3 ∷ 4 ∷ []) ∷ []

abbrev words : List (List ℕ)
words = (1 ∷ 2 ∷ 1 ∷ 2 ∷ []) ∷ (3 ∷ 4 ∷ 5 ∷ 2 ∷ []) ∷ []

abbrev sent : List ℕ
sent = 1 ∷ 0 ∷ 1 ∷ 0 ∷ 3 ∷ 2 ∷ 5 ∷ 2 ∷ 0 ∷ 4 ∷ 0 ∷ 2 ∷ []

abbrev slots : List ℕ
slots = 1 ∷ 9 ∷ 1 ∷ 9 ∷ 0 ∷ 0 ∷ 5 ∷ 2 ∷ 9 ∷ 4 ∷ 9 ∷ 2 ∷ []

abbrev marks : List ℕ
marks = 0 ∷ 1 ∷ 0 ∷ 1 ∷ 0 ∷ 0 ∷ 0 ∷ 0 ∷ 1 ∷ 0 ∷ 1 ∷ 0 ∷ []

encoded_0 : encoded (code_of line) (1 ∷ 2 ∷ []) ≡ 1 ∷ 2 ∷ 1 ∷ 2 ∷ []
unfolding below is_codeword each value_from ◌⊕◌ times reduce product power
encoded_0 = encoded_only (code_of line) line_allowed.code (1 ∷ 2 ∷ []) refl (1 ∷ 2 ∷ []) tt

encoded_1 : encoded (code_of line) (3 ∷ 4 ∷ []) ≡ 3 ∷ 4 ∷ 5 ∷ 2 ∷ []
unfolding below is_codeword each value_from ◌⊕◌ times reduce product power
encoded_1 = encoded_only (code_of line) line_allowed.code (3 ∷ 4 ∷ []) refl (5 ∷ 2 ∷ []) tt

word_sent : (message word : List ℕ) → length message ≡ 2 → T (below 256 message) → encoded (code_of line) message ≡ word → WordSent line message word
word_sent message word size bytes e = record {
  size = size;
  bytes = bytes;
  lent = replicate 4 0;
  lent_size = refl;
  answer = Ok tt;
  promise = encode_done (code_of line) message (replicate 4 0) (record { setting = line_allowed.code; size = size; word_size = refl; small = bytes }) word e;
}

sending : LineSent line (fed line words) sent
unfolding joined answer memory position line_out line_kept ring tri period common tabulate
sending = line_sent line line_allowed (fed line words)

pub line_run : OneRun 2 (on_line line 2) sent slots marks
unfolding each slot_of
line_run = record { start = 4; size = 2; short = lit≤ tt; alone = struck_by (on_line line 2) 4 2 sent slots marks tt }

pub line_arrives : LineArrives line messages slots marks
unfolding below joined
line_arrives = record {
  words = words;
  encoding = (word_sent _ _ refl tt encoded_0, (word_sent _ _ refl tt encoded_1, tt));
  sent = sent;
  sending = sending;
  channel = record { slots_size = refl; marks_size = refl; bytes = tt; zero_or_one = tt };
  within = line_run_within line line_allowed 2 sent slots marks line_run;
}
