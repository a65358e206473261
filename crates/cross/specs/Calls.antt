-- Calls on a cross line from a fresh one, a frame each: what each frame is answered, and which bytes leave with it (document 01, Cross line).
-- This speaks of the promises alone. Assumes nothing.
use Rattle.std.specs.Prelude.{◌≡◌, refl, Ok, Bool, List, T, length, replicate}
use Rattle.std.proofs.Math.Path.{sym, ap}
use Rattle.std.proofs.Common.{◌∙◌, arith, lit<}
use Rattle.std.proofs.Math.Bool.{true, false}
use Prim.Native.Nat.{ℕ, zero, suc, ◌+◌, ◌-◌, ◌*◌, ◌≤◌, ◌<◌}
use Rattle.std.proofs.lemmas.List.{length-replicate, get_or-replicate}
use Rattle.algebra.specs.Tests.{at, below, below_same}
use Rattle.algebra.specs.Refusal.{if_zero}
use Rattle.algebra.specs.Lists.{tabulated}
use Rattle.rings.specs.Run.{run_size, run_below}
use Rattle.interleave.specs.Numbers.{number_of}
use Rattle.cross.specs.Numbers.{cross_number}
use Rattle.cross.specs.Cross.{outer_word, inner_word, turned, after, opened, passed_on, mark_of, marks_of, map_of, FrameOutcome, without_figures, closed, settled, told, received}
use Rattle.cross.specs.Promises.{Ready, FrameAnswer, position_then, position_received, two, three, five, FreshSender, FreshReceiver, Send, Receive}
use Rattle.cross.specs.Checks.{size_done, SendFine, send_done, fresh_done, ReceiveFine, receive_done, settled_told}
use Rattle.cross.specs.Codes.{settled_early, settled_late}
use Rattle.cross.specs.Positions.{position_after, reachable, early_frame, late_frame}
use Rattle.cross.specs.Frames.{memory_after, due_with, HeldBack, held_back}

-- ---- the memories

memory_size : (back : Bool) (once d : ℕ) (f : ℕ → List ℕ) (F : ℕ) → length (memory_after back once d f F) ≡ 1512
unfolding memory_after turned
memory_size back once d f zero = length-replicate 1512 d
memory_size back once d f (suc F) = run_size _ _ _ _ _ (memory_after back once d f F) _ ∙ memory_size back once d f F

memory_fresh : (back : Bool) (once d : ℕ) (f : ℕ → List ℕ) → memory_after back once d f 0 ≡ replicate 1512 d
unfolding memory_after
memory_fresh back once d f = refl

-- marks stay marks
memory_below : (back : Bool) (once d : ℕ) (f : ℕ → List ℕ) → d < 2 → ((G : ℕ) → (length (f G) ≡ 28) × T (below 2 (f G))) → (F : ℕ) → T (below 2 (memory_after back once d f F))
unfolding memory_after turned
memory_below back once d f h g zero = below_same 2 1512 d h
memory_below back once d f h g (suc F) =
    run_below _ _ _ _ 2 _ (memory_after back once d f F) _ (memory_below back once d f h g F)
    (rw (← tabulated (f F) 28 (at (f F)) 0 (g F).0 (λ i l. refl)) (g F).1)

-- ---- the sender

-- calls from a fresh sender: frame F takes message F and gives word F
pub record SenderCalls (many : ℕ) (messages words : ℕ → List ℕ) : Type 0 where
  pub lent : List ℕ
  pub lent_size : length lent ≡ 1512
  -- what the call before frame F answered, the position and memory after it, and the lent word that frame F is written over
  pub answers : ℕ → Ready
  pub position : ℕ → ℕ
  pub memory : ℕ → List ℕ
  pub over : ℕ → List ℕ
  pub over_size : (F : ℕ) → F < many → length (over F) ≡ 32
  pub message_size_lem : (F : ℕ) → F < many → length (messages F) ≡ 24
  pub fresh : FreshSender lent (answers 0) (memory 0)
  pub first : position 0 ≡ position_then 0 (answers 0)
  pub frame : (F : ℕ) → F < many → Send (position F) (memory F) (messages F) (over F) (answers (suc F)) (memory (suc F)) (words F)
  pub next : (F : ℕ) → F < many → position (suc F) ≡ position_then (position F) (answers (suc F))

-- the bytes that are due with frame F, of the outer words of these messages
abbrev pub due_sent : (ℕ → List ℕ) → ℕ → List ℕ
due_sent messages F = due_with false 0 0 (λ G. outer_word (messages G)) F

-- Byte i of message F's outer word leaves with frame F + 4i, and before the first such frame 0.
pub sent_held : (messages : ℕ → List ℕ) (F i : ℕ) → i < 28 → HeldBack (λ G. outer_word (messages G)) 0 (4 * i) F i (at (due_sent messages F) i)
sent_held messages F i h = held_back false 0 0 (λ G. outer_word (messages G)) F i h

module _ (many : ℕ) (messages words : ℕ → List ℕ) (s : SenderCalls many messages words) where
  abbrev sent_memory : ℕ → List ℕ
  sent_memory F = memory_after false 0 0 (λ G. outer_word (messages G)) F

  -- position and memory before frame F
  record SenderAt (F : ℕ) : Type 0 where
    position : s.position F ≡ position_after 0 F
    memory : s.memory F ≡ sent_memory F

  sender_fresh : SenderAt 0
  unfolding position_after
  sender_fresh =
      let (r, m) = two (rw (size_done _ s.lent_size) at s.fresh.outcome) in
      record { position = s.first ∙ ap (position_then 0) r; memory = m ∙ sym (memory_fresh false 0 0 _) }

  send_fine : (F : ℕ) → F < many → SenderAt F → SendFine (s.position F) (length (s.memory F)) (length (messages F)) (length (s.over F))
  send_fine F h a = record {
    position = rw a.position (reachable 0 F);
    memory_size = ap length a.memory ∙ memory_size false 0 0 _ F;
    message_size_lem = s.message_size_lem F h;
    word_size = s.over_size F h;
  }

  -- what frame F answers and leaves
  sent : (F : ℕ) → F < many → SenderAt F
      → (s.answers (suc F) ≡ Ok (after 0 (position_after 0 F))) × (s.memory (suc F) ≡ sent_memory (suc F)) × (words F ≡ inner_word (due_sent messages F) (s.over F))
  unfolding memory_after
  sent F h a = three (rw (send_done _ _ _ _ (send_fine F h a), a.position, a.memory) at (s.frame F h).outcome)

  sender_at : (F : ℕ) → F ≤ many → SenderAt F
  unfolding position_after
  sender_at zero h = sender_fresh
  sender_at (suc F) h =
      let (r, m, _) = sent F (omega arith) (sender_at F (omega arith)) in
      record { position = s.next F (omega arith) ∙ ap (position_then (s.position F)) r; memory = m }

  -- Every frame is answered 0, and its inner word is that of the 28 bytes that are due.
  pub sends : (F : ℕ) → F < many → (number_of cross_number (s.answers (suc F)) ≡ 0) × (words F ≡ inner_word (due_sent messages F) (s.over F))
  sends F h =
      let (r, _, w) = sent F h (sender_at F (omega arith)) in
      (ap (number_of cross_number) r, w)

-- ---- the receiver

-- calls from a fresh receiver: frame F takes word F, any 32 bytes, and leaves the message bytes and a map with an answer
pub record ReceiverCalls (many : ℕ) (words : ℕ → List ℕ) (answers : ℕ → FrameAnswer) (messages : ℕ → List ℕ) : Type 0 where
  pub lent : List ℕ
  pub lent_size : length lent ≡ 1512
  pub lent_marks : List ℕ
  pub marks_size : length lent_marks ≡ 1512
  pub start : Ready
  -- position and memories before frame F, the message bytes and the map lent to it, and the map that it leaves
  pub position : ℕ → ℕ
  pub memory : ℕ → List ℕ
  pub held : ℕ → List ℕ
  pub given : ℕ → List ℕ
  pub given_size : (F : ℕ) → F < many → length (given F) ≡ 24
  pub lent_map : ℕ → List ℕ
  pub map_size : (F : ℕ) → F < many → length (lent_map F) ≡ 32
  pub maps : ℕ → List ℕ
  pub word_size : (F : ℕ) → F < many → length (words F) ≡ 32
  pub fresh : FreshReceiver lent lent_marks start (memory 0) (held 0)
  pub first : position 0 ≡ position_then 0 start
  pub frame : (F : ℕ) → F < many → Receive (position F) (memory F) (held F) (words F) (given F) (lent_map F) (answers F) (memory (suc F)) (held (suc F)) (messages F) (maps F)
  pub next : (F : ℕ) → F < many → position (suc F) ≡ position_received (position F) (answers F)

-- the bytes of the outer word that is due with frame F, and their marks
abbrev pub due_bytes : (ℕ → List ℕ) → ℕ → List ℕ
due_bytes words F = due_with true 108 0 (λ G. passed_on (words G)) F

abbrev pub due_marks : (ℕ → List ℕ) → ℕ → List ℕ
due_marks words F = due_with true 108 1 (λ G. marks_of (words G)) F

-- Byte i that an inner word passes on is due 4(27 - i) frames later, and so is its mark; before the first such frame it is 0, marked 1.
pub bytes_held : (words : ℕ → List ℕ) (F i : ℕ) → i < 28 → HeldBack (λ G. passed_on (words G)) 0 (4 * (27 - i)) F i (at (due_bytes words F) i)
bytes_held words F i h = held_back true 108 0 (λ G. passed_on (words G)) F i h

pub marks_held : (words : ℕ → List ℕ) (F i : ℕ) → i < 28 → HeldBack (λ G. marks_of (words G)) 1 (4 * (27 - i)) F i (at (due_marks words F) i)
marks_held words F i h = held_back true 108 1 (λ G. marks_of (words G)) F i h

-- So byte i of the outer word that is due with frame F + 108 is the one that the inner word of frame F + 4i gave on, with the mark of that word.
pub seen : (words : ℕ → List ℕ) (F i : ℕ) → i < 28
    → (at (due_bytes words (F + 108)) i ≡ at (passed_on (words (F + 4 * i))) i) × (at (due_marks words (F + 108)) i ≡ mark_of (words (F + 4 * i)))
seen words F i h =
    let e : F + 4 * i + 4 * (27 - i) ≡ F + 108 = omega arith in
    ((bytes_held words (F + 108) i h).late (F + 4 * i) e, (marks_held words (F + 108) i h).late (F + 4 * i) e ∙ get_or-replicate 28 i (mark_of (words (F + 4 * i))) 0 h)

mark_small : (k : ℕ) → if_zero k 0 1 < 2
mark_small zero = omega arith
mark_small (suc k) = omega arith

marks_of_small : (word : List ℕ) → (length (marks_of word) ≡ 28) × T (below 2 (marks_of word))
marks_of_small word = (length-replicate 28 (mark_of word), below_same 2 28 (mark_of word) (mark_small (opened word).number))

module _ (many : ℕ) (words : ℕ → List ℕ) (answers : ℕ → FrameAnswer) (messages : ℕ → List ℕ) (r : ReceiverCalls many words answers messages) where
  abbrev held_bytes : ℕ → List ℕ
  held_bytes F = memory_after true 108 0 (λ G. passed_on (words G)) F

  abbrev held_marks : ℕ → List ℕ
  held_marks F = memory_after true 108 1 (λ G. marks_of (words G)) F

  record ReceiverAt (F : ℕ) : Type 0 where
    position : r.position F ≡ position_after 108 F
    memory : r.memory F ≡ held_bytes F
    held : r.held F ≡ held_marks F

  receiver_fresh : ReceiverAt 0
  unfolding position_after
  receiver_fresh =
      let (a, m, ms) = three (rw (fresh_done _ _ r.lent_size r.marks_size) at r.fresh.outcome) in
      record {
        position = r.first ∙ ap (position_then 0) a;
        memory = m ∙ sym (memory_fresh true 108 0 _);
        held = ms ∙ sym (memory_fresh true 108 1 _);
      }

  receive_fine : (F : ℕ) → F < many → ReceiverAt F → ReceiveFine (r.position F) (length (r.memory F)) (r.held F) (length (words F)) (length (r.given F)) (length (r.lent_map F))
  receive_fine F h a = record {
    position = rw a.position (reachable 108 F);
    memory_size = ap length a.memory ∙ memory_size true 108 0 _ F;
    held_size = ap length a.held ∙ memory_size true 108 1 _ F;
    word_size = r.word_size F h;
    message_size_lem = r.given_size F h;
    map_size = r.map_size F h;
    fit = rw a.held (memory_below true 108 1 _ (lit< tt) (λ G. marks_of_small (words G)) F);
  }

  -- what frame F answers and leaves
  abbrev answered_at : ℕ → FrameOutcome
  answered_at F = settled (position_after 108 F) (due_bytes words F) (due_marks words F) (r.given F)

  taken : (F : ℕ) → F < many → ReceiverAt F
      → (answers F ≡ Ok (record { position = after 108 (position_after 108 F); figures = told (answered_at F) }))
      × (r.memory (suc F) ≡ held_bytes (suc F)) × (r.held (suc F) ≡ held_marks (suc F)) × (messages F ≡ (answered_at F).message) × (r.maps F ≡ map_of (words F))
  unfolding memory_after
  taken F h a = five (rw (receive_done _ _ _ _ _ _ (receive_fine F h a), a.position, a.memory, a.held) at (r.frame F h).outcome)

  -- the same without the map, on which nothing after the frame rests
  taken_on : (F : ℕ) → F < many → ReceiverAt F
      → (answers F ≡ Ok (record { position = after 108 (position_after 108 F); figures = told (answered_at F) }))
      × (r.memory (suc F) ≡ held_bytes (suc F)) × (r.held (suc F) ≡ held_marks (suc F)) × (messages F ≡ (answered_at F).message)
  unfolding memory_after
  taken_on F h a =
      let (x, m, ms, w, _) = five (rw (receive_done _ _ _ _ _ _ (receive_fine F h a), a.position, a.memory, a.held) at (r.frame F h).outcome) in
      (x, m, ms, w)

  receiver_at : (F : ℕ) → F ≤ many → ReceiverAt F
  unfolding position_after
  receiver_at zero h = receiver_fresh
  receiver_at (suc F) h =
      let (a, m, ms, _) = taken_on F (omega arith) (receiver_at F (omega arith)) in
      record { position = r.next F (omega arith) ∙ ap (position_received (r.position F)) a; memory = m; held = ms }

  answered : (F : ℕ) → F < many → received (answers F) (messages F) ≡ answered_at F
  answered F h =
      let (a, _, _, w) = taken_on F h (receiver_at F (omega arith)) in
      rw (a, w) (settled_told _ _ _ _)

  -- The first 108 frames are answered 7, whatever their words are, and leave the message bytes.
  pub not_yet : (F : ℕ) → F < many → F < 108 → received (answers F) (messages F) ≡ without_figures 7 (r.given F)
  not_yet F h l = answered F h ∙ sym (settled_early _ _ _ _ (early_frame F l))

  -- Every later frame is answered what becomes of the outer word that is due.
  pub receives : (F : ℕ) → F < many → 108 ≤ F → received (answers F) (messages F) ≡ closed (due_bytes words F) (due_marks words F) (r.given F)
  receives F h l = answered F h ∙ sym (settled_late _ _ _ _ (late_frame F l))

  -- Every frame leaves the map of its own inner word, also while it is answered 7 and where the outer word is refused.
  pub mapped : (F : ℕ) → F < many → r.maps F ≡ map_of (words F)
  mapped F h =
      let a = receiver_at F (omega arith) in
      let (_, _, _, _, u) = five (rw (receive_done _ _ _ _ _ _ (receive_fine F h a), a.position, a.memory, a.held) at (r.frame F h).outcome) in
      u
