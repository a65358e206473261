-- Words that go through a delay line and are damaged within the bound come back: what leaves the receiver is, place for place, what the word's
-- slots held, and the decoder does the rest (document 01, Delay line).
-- Assumes nothing.
use Rattle.std.specs.Prelude.{◌≡◌, refl, true, Ok, ℕ, ◌+◌, ◌-◌, ◌*◌, ◌%◌, ◌≤◌, ◌<◌, length, get_or, take, replicate, T}
use Rattle.std.proofs.Common.{sym, ap, ◌∙◌, suc-mul, arith, length-append, ext_get_or}
use Rattle.std.proofs.Math.Bool.{false}
use mathlib.Core.List.{List, [], append-nil}
use Rattle.std.proofs.Math.Nat.{mul-le-mul_right, mod-lt}
use Rattle.std.proofs.Math.ListN.{length-replicate, get_or-append}
use Rattle.algebra.specs.Tests.{at}
use Rattle.algebra.specs.Lists.{tabulate, tabulated, get_or_tabulate, tabulate_same, length_joined, joined_at}
use Rattle.word.specs.Setting.{message_size}
use Rattle.word.specs.Code.{encoded}
use Rattle.word.specs.Codeword.{is_codeword, codeword}
use Rattle.word.specs.Met.{encodes_gives}
use Rattle.rings.specs.Run.{Ran}
use Rattle.interleave.specs.Line.{sent, received}
use Rattle.interleave.specs.Setting.{memory_size, line_at, line_run, line_done}
use Rattle.interleave.specs.Promises.{blank, fresh_sender, send_run, SendRun}
use Rattle.interleave.specs.Calls.{sender_fresh, receiver_fresh, sender_starts, receiver_starts, fresh_run}
use Rattle.coverage.specs.Channel.{Channel, end_to_end, word_of}
use Rattle.coverage.specs.Line.{LineSetting, code_of, LineAllowed, delay, WordSent, fed, SenderCalls, LineSent, slot_of, on_line, LineArrives, LineReceived, leaving}
use Rattle.coverage.specs.Coverage.{LineComesBack, NoTwoLinesAlike}
use Rattle.coverage.specs.Each.{each_length, each_entry}
use Rattle.coverage.proofs.Places.{line_place, line_found}
use Rattle.coverage.proofs.LineCalls.{sender_calls, receiver_calls}
use Rattle.coverage.proofs.Words.{picked, Came, came_in, encoded_code, encoded_message, word_once, word_decoded, part_decoded}

module _ (l : LineSetting) (ok : LineAllowed l) where
  abbrev I : ℕ
  I = l.branches

  abbrev M : ℕ
  M = l.unit

  abbrev n : ℕ
  n = l.n

  -- ---- the calls on fresh lines

  slots_sent : (bytes slots : List ℕ) → LineSent l bytes slots → slots ≡ tabulate (length bytes) (sent I M (at bytes))
  slots_sent bytes slots s =
      let (line, memory) = sender_fresh I M n ok.line s.lent s.ready s.memory s.lent_size s.fresh in
      sender_calls (rw (line, memory) at s.calls) (sender_starts I M n ok.line) ∙ fresh_run I M n ok.line false 0 bytes

  -- and there is a sender that gives these
  pub line_sent : (bytes : List ℕ) → LineSent l bytes (tabulate (length bytes) (sent I M (at bytes)))
  unfolding fresh_sender send_run
  line_sent bytes =
      let none = line_done (line_at I M n 0) (length (blank I M 0)) (sender_starts I M n ok.line) in
      let z : Ran = line_run false (line_at I M n 0) (blank I M 0) bytes in
      let run : SendRun (line_at I M n 0) (blank I M 0) bytes (Ok (line_at I M n z.position)) z.memory z.out = record { outcome = rw none } in
      let own : LineSent l bytes z.out = record {
        lent = blank I M 0;
        lent_size = length-replicate (memory_size I M) 0;
        ready = Ok (line_at I M n 0);
        memory = blank I M 0;
        fresh = record { outcome = rw none };
        calls = rw (append-nil bytes, append-nil z.out) at (SenderCalls.run run SenderCalls.none);
      } in
      rw (fresh_run I M n ok.line false 0 bytes) at own

  module _ (slots marks : List ℕ) (size : ℕ) (c : Channel size slots marks) (bytes flags : List ℕ) (r : LineReceived l slots marks bytes flags) where
    received_all : (bytes ≡ tabulate size (received I M 0 (at slots))) × (flags ≡ tabulate size (received I M 1 (at marks)))
    received_all =
        let (line, memory, held) = receiver_fresh I M n ok.line r.lent r.lent_marks r.ready r.memory r.held r.lent_size r.marks_size r.fresh in
        let (x, y) = receiver_calls (rw (line, memory, held) at r.calls) (receiver_starts I M n ok.line) c.zero_or_one in
        (x ∙ (rw c.slots_size at (fresh_run I M n ok.line true 0 slots)), y ∙ (rw c.marks_size at (fresh_run I M n ok.line true 1 marks)))

  -- ---- words on the line

  module _ (messages : List (List ℕ)) (slots marks : List ℕ) (a : LineArrives l messages slots marks) where
    abbrev message : ℕ → List ℕ
    message w = get_or messages w []

    abbrev word : ℕ → List ℕ
    word w = get_or a.words w []

    many : length messages ≡ length a.words
    many = each_length (WordSent l) messages a.words a.encoding

    word_sent : (w : ℕ) → w < length messages → WordSent l (message w) (word w)
    word_sent = each_entry (WordSent l) messages a.words [] [] a.encoding

    word_is : (w : ℕ) → w < length messages → word w ≡ encoded (code_of l) (message w)
    word_is w h = let e = word_sent w h in (encodes_gives (code_of l) (message w) e.lent (record { setting = ok.code; size = e.size; word_size = e.lent_size; small = e.bytes }) e.promise).1

    word_code : (w : ℕ) → w < length messages → T (is_codeword (code_of l) (word w))
    word_code w h = let e = word_sent w h in rw (word_is w h) (encoded_code (code_of l) ok.code (message w) e.size e.bytes)

    word_size : (w : ℕ) → w < length messages → length (word w) ≡ n
    word_size w h = (codeword (code_of l) (word w) (word_code w h)).size

    word_begins : (w : ℕ) → w < length messages → take (message_size (code_of l)) (word w) ≡ message w
    word_begins w h = let e = word_sent w h in rw (word_is w h) (encoded_message (code_of l) ok.code (message w) e.size e.bytes)

    sized : (w : ℕ) → w < length a.words → length (word w) ≡ n
    sized w h = word_size w (omega (arith, many))

    steps : length (fed l a.words) ≡ length messages * n + delay l
    steps =
        length-append (end_to_end a.words) (replicate (delay l) 0)
        ∙ omega (arith, length_joined n word (length a.words) sized, length-replicate {A = ℕ} (delay l) 0, ap (λ (z : ℕ). z * n) many)

    -- the step at which byte p of word w is put in, and those at which it is in its slot and at the receiver's end
    module _ (w p : ℕ) (h : w < length messages) (u : p < n) where
      put_in : w * n + p < length messages * n
      put_in = omega (arith, mul-le-mul_right n h, suc-mul w n)

      slot_in : slot_of l w p < length (fed l a.words)
      unfolding slot_of
      slot_in =
          let j : p % I ≤ I - 1 = let b : 0 < I = omega (arith, ok.line.branches.0) in omega (arith, mod-lt p b) in
          omega (arith, put_in, steps, mul-le-mul_right I (mul-le-mul_right M j))

      leaves_in : w * n + p + delay l < length (fed l a.words)
      leaves_in = omega (arith, put_in, steps)

      fed_at : at (fed l a.words) (w * n + p) ≡ at (word w) p
      fed_at =
          get_or-append (end_to_end a.words) (replicate (delay l) 0) 0 (w * n + p) (omega (arith, put_in, length_joined n word (length a.words) sized, ap (λ (z : ℕ). z * n) many))
          ∙ joined_at n word (length a.words) sized w p (omega (arith, many)) u

    on_line_lem : (w : ℕ) → w < length messages → word_of (on_line l (length messages)) a.sent w ≡ word w
    on_line_lem w h = sym (tabulated (word w) n _ 0 (word_size w h) λ p u.
        sym (ap (λ (z : List ℕ). at z (slot_of l w p)) (slots_sent (fed l a.words) a.sent a.sending)
        ∙ get_or_tabulate _ (sent I M (at (fed l a.words))) (slot_of l w p) 0 (slot_in w p h u)
        ∙ line_place l ok w (at (fed l a.words)) p ∙ fed_at w p h u))

    word_came : (w : ℕ) → w < length messages → Came (code_of l) (word w) (word_of (on_line l (length messages)) slots w) (word_of (on_line l (length messages)) marks w)
    word_came w h = came_in (code_of l) refl (word w) _ _ (word_code w h) (rw (on_line_lem w h) at (a.within w h)) (picked n (slot_of l w) slots marks a.channel)

    -- what leaves the receiver is what the word's slots held
    module _ (bytes flags : List ℕ) (r : LineReceived l slots marks bytes flags) where
      leaves : (w : ℕ) → w < length messages → (leaving l bytes w ≡ word_of (on_line l (length messages)) slots w) × (leaving l flags w ≡ word_of (on_line l (length messages)) marks w)
      leaves w h =
          let (b, k) = received_all slots marks (length (fed l a.words)) a.channel bytes flags r in
          (from 0 slots bytes b, from 1 marks flags k)
        where
          from : (d : ℕ) (x y : List ℕ) → y ≡ tabulate (length (fed l a.words)) (received I M d (at x)) → leaving l y w ≡ word_of (on_line l (length messages)) x w
          from d x y e = tabulate_same n _ _ λ p u.
              ap (λ (z : List ℕ). at z (w * n + p + delay l)) e ∙ get_or_tabulate _ (received I M d (at x)) (w * n + p + delay l) 0 (leaves_in w p h u) ∙ line_found l ok w d (at x) p

pub line_comes_back : LineComesBack
line_comes_back l ok messages slots marks bytes flags a r w h =
    let (b, k) = leaves l ok messages slots marks a bytes flags r w h in
    let c = word_came l ok messages slots marks a w h in
    let begins = word_begins l ok messages slots marks a w h in
    rw (b, k) (record {
      in_place = λ lent_map size d word map e. let (x, y) = word_decoded (code_of l) ok.code _ _ _ c lent_map size d word map e in record { number = x; as_sent = ap (take (message_size (code_of l))) y ∙ begins };
      to_part = λ lent_map size d lent part map n e. let (x, y) = part_decoded (code_of l) ok.code _ _ _ c lent_map size d lent part map n e in record { number = x; as_sent = y ∙ begins };
    })

-- ---- no two alike: the codewords of both lists are near what came, so they are the same, and so are the messages they begin with

pub no_two_lines_alike : NoTwoLinesAlike
no_two_lines_alike l ok ms ns slots marks same a b = ext_get_or [] ms ns same λ w h.
    let k : w < length ns = omega arith in
    let e : get_or a.words w [] ≡ get_or b.words w [] = word_once (code_of l) ok.code _ _ _ _ (word_came l ok ms slots marks a w h) (word_came l ok ns slots marks b w k) in
    sym (word_begins l ok ms slots marks a w h) ∙ ap (take (message_size (code_of l))) e ∙ word_begins l ok ns slots marks b w k
