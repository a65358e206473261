-- A frame that is damaged within the bound comes back: each word is corrected to the one that was sent, so the area and its trailer are those
-- that were sent (document 01, Block interleaver and frame).
-- Assumes nothing.
use Rattle.std.specs.Prelude.{◌≡◌, true, Result, Ok, take, drop, replicate, T, ltb}
use Rattle.std.proofs.Math.Path.{refl, ap, ap₂}
use Rattle.std.proofs.Common.{sym, ◌∙◌, zero-mul, suc-mul, div-lt_iff_lt-mul, div-add-mod', arith, length-drop, take-add, length-take-le, get_or-take, get_or-drop, lt→ltb}
use mathlib.Core.List.{List, [], ◌++◌, append_assoc}
use Rattle.std.proofs.Math.Option.{Option, some, get_or}
use Prim.Native.Nat.{ℕ, zero, suc, ◌+◌, ◌-◌, ◌*◌, ◌/◌, ◌%◌, ◌≤◌, ◌<◌}
use Rattle.std.proofs.Math.Nat.{mod-lt}
use Rattle.std.proofs.Math.ListN.{length}
use Rattle.std.proofs.lemmas.List.{length-replicate}
use Rattle.std.proofs.Math.Seq.{take_at, drop_at, take_all}
use Rattle.algebra.specs.Tests.{at, below, both, below_all, below_at, below_append, first_none, passed}
use Rattle.algebra.specs.Lists.{length_tabulate, get_or_tabulate, tabulate_same, joined, joined_at, part, within}
use Rattle.word.specs.Setting.{allowed, message_size, allowed_yes}
use Rattle.word.specs.Map.{change_of, change_at, changes}
use Rattle.word.specs.Map.Laws.{length_changes, changes_at_lem}
use Rattle.word.specs.Code.{encoded}
use Rattle.interleave.specs.Block.{transposed}
use Rattle.interleave.specs.Slots.{word_in, word_rule, length_word, word_back, spread_rule}
use Rattle.frame.specs.Frame.{word_setting, area_size, slot_count, allowed_frame, two, two_at, trailer, area_sent, word_sent, slots_sent, trailer_good, corrected_word, is_none, message_of, beyond, changes_at, area_received, figures_received, map_received, payload_of, number_of, received_of}
use Rattle.frame.specs.Frame.Limits.{FrameAllowed, frame_kept, area_few}
use Rattle.frame.specs.Frame.Trailer.{length_sent, sent_zero, sent_trailer, zeros_all, good_within, payload_there}
use Rattle.frame.specs.Promises.{Receives, sends_once, receives_once}
use Rattle.frame.specs.Sending.{send_done}
use Rattle.frame.specs.Receiving.{settled_good, decoded_settled, receive_decoded}
use Rattle.frame.specs.declared.setting.Framing.{Framing}
use Rattle.frame.specs.declared.setting.Received.{Received}
use Rattle.frame.specs.declared.setting.ReceiveError.{ReceiveError}
use Rattle.coverage.specs.Channel.{word_of}
use Rattle.coverage.specs.Frame.{Message, Fits, FrameSent, in_frame, Frame, Arrives, Answer, Answers, ComesBack}
use Rattle.coverage.specs.Coverage.{FrameComesBack, FrameMapTells}
use Rattle.coverage.proofs.Words.{picked, Came, came_in, word_corrected, encoded_code, encoded_size, encoded_message}

-- ---- the parts of a list, joined again

joined_front : (k : ℕ) (g : ℕ → List ℕ) (whole : List ℕ) (n : ℕ) → ((w : ℕ) → w < n → g w ≡ part k w whole) → joined n g ≡ take (n * k) whole
unfolding joined
joined_front k g whole zero h = rw zero-mul
joined_front k g whole (suc n) h =
    ap₂ ◌++◌ (joined_front k g whole n λ w l. h w (omega arith)) (h n (omega arith)) ∙ sym (take-add (n * k) k whole) ∙ ap (λ (z : ℕ). take z whole) (sym (suc-mul n k))

-- ---- bytes of the area

two_bytes : (x : ℕ) → x < 65536 → T (below 256 (two x))
unfolding below
two_bytes x h = both (ltb (x % 256) 256) _ (lt→ltb (x % 256) 256 (omega arith)) (both (ltb (x / 256) 256) true (lt→ltb (x / 256) 256 (omega arith)) tt)

zero_bytes : (n : ℕ) → T (below 256 (replicate n 0))
unfolding below
zero_bytes zero = tt
zero_bytes (suc n) = zero_bytes n

module _ (f : Framing) (ok : T (allowed_frame f)) where
  limits : FrameAllowed f
  limits = frame_kept f (passed _ ok)

  code_allowed : T (allowed (word_setting f))
  code_allowed = rw (← allowed_yes (word_setting f) limits.words) tt

  abbrev k : ℕ
  k = message_size (word_setting f)

  module _ (m : Message) (fits : Fits f m) where
    -- ---- what is sent

    abbrev area : List ℕ
    area = area_sent (area_size f) m.payload m.sequence

    -- the zeros before the payload
    abbrev front : ℕ
    front = area_size f - 4 - length m.payload

    -- word w of the area, and as it is sent
    abbrev message : ℕ → List ℕ
    message w = part k w area

    abbrev word : ℕ → List ℕ
    word w = encoded (word_setting f) (message w)

    room : length m.payload + 4 ≤ area_size f
    room = omega (arith, limits.room, fits.short)

    area_size_lem : length area ≡ area_size f
    area_size_lem = length_sent (area_size f) m.payload m.sequence room

    area_bytes : T (below 256 area)
    unfolding area_sent
    area_bytes =
        below_append 256 (replicate front 0 ++ m.payload) (trailer (length m.payload) m.sequence) (below_append 256 (replicate front 0) m.payload (zero_bytes front) fits.bytes)
        (below_append 256 (two (length m.payload)) (two m.sequence) (two_bytes (length m.payload) (omega (arith, room, area_few f limits))) (two_bytes m.sequence fits.number))

    message_size_lem : (w : ℕ) → w < f.depth → length (message w) ≡ k
    message_size_lem w l = length-take-le k (drop (w * k) area) (simp length-drop (omega (arith, within w f.depth k l, area_size_lem)))

    message_bytes : (w : ℕ) → w < f.depth → T (below 256 (message w))
    message_bytes w l = below_all 256 (message w) λ i u.
        rw (get_or-take k (drop (w * k) area) i 0 (omega (arith, message_size_lem w l)), get_or-drop (w * k) area i 0) (below_at 256 area area_bytes (w * k + i) (omega arith))

    -- slots that meet the promise of `send` are n·J, and hold these words
    module _ (slots : List ℕ) (s : FrameSent f m slots) where
      slots_are : slots ≡ slots_sent f m.payload m.sequence
      slots_are = (sends_once s.promise (send_done f m.payload m.sequence s.lent (record { limits = limits; slots_size = s.lent_size; fits = room }) _ refl)).1

      pub slots_size : length slots ≡ slot_count f
      unfolding slots_sent transposed
      slots_size = ap length slots_are ∙ length_tabulate (slot_count f) _

      slots_hold : (w : ℕ) → w < f.depth → word_of (in_frame f) slots w ≡ word w
      unfolding word_in word_sent slots_sent
      slots_hold w l =
          ap (λ (z : List ℕ). word_of (in_frame f) z w) slots_are
          ∙ word_back f.depth f.n word (λ v h. encoded_size (word_setting f) code_allowed (message v) (message_size_lem v h) (message_bytes v h)) w l

    -- ---- the trailer that was sent

    trailer_at : (i : ℕ) → at area (area_size f - 4 + i) ≡ at (trailer (length m.payload) m.sequence) i
    trailer_at i =
        let e : area_size f - 4 + i - (area_size f - 4) ≡ i = omega arith in
        sym (sent_trailer (area_size f) m.payload m.sequence room (area_size f - 4 + i) (omega arith)) ∙ rw e

    back_sent : two_at area (area_size f - 4) ≡ length m.payload
    back_sent =
        let e : area_size f - 4 ≡ area_size f - 4 + 0 = omega arith in
        omega (arith, ap (at area) e ∙ trailer_at 0, trailer_at 1)

    sequence_sent : two_at area (area_size f - 4 + 2) ≡ m.sequence
    sequence_sent =
        let e : area_size f - 4 + 2 + 1 ≡ area_size f - 4 + 3 = omega arith in
        omega (arith, trailer_at 2, ap (at area) e ∙ trailer_at 3)

    trailer_good_lem : trailer_good (area_size f) area ≡ true
    trailer_good_lem =
        sym (good_within (area_size f) area (omega (arith, back_sent, room)) true
        (zeros_all _ area λ i l. sym (sent_zero (area_size f) m.payload m.sequence room i (rw back_sent at l))))

    payload_sent : take (length m.payload) (drop front area) ≡ m.payload
    unfolding area_sent
    payload_sent =
        let rest : List ℕ = trailer (length m.payload) m.sequence in
        ap (take (length m.payload)) (ap (drop front) (append_assoc (replicate front 0) m.payload rest) ∙ drop_at (replicate front 0) (m.payload ++ rest) front (length-replicate front 0))
        ∙ take_at m.payload rest (length m.payload) refl

    -- ---- what is received

    module _ (frame : Frame) (a : Arrives f m frame) where
      -- the answer to the frame, whatever area is lent
      abbrev numbers : Received
      numbers = record { sequence = m.sequence; back = length m.payload; figures = figures_received f frame.slots frame.marks }

      abbrev answer : Result Received ReceiveError
      answer = Ok numbers

      word_came : (w : ℕ) → w < f.depth → Came (word_setting f) (word w) (word_of (in_frame f) frame.slots w) (word_of (in_frame f) frame.marks w)
      word_came w l =
          came_in (word_setting f) refl (word w) _ _ (encoded_code (word_setting f) code_allowed (message w) (message_size_lem w l) (message_bytes w l))
          (rw (slots_hold a.sent a.sending w l) at (a.within w l)) (picked f.n (λ i. i * f.depth + w) frame.slots frame.marks a.channel)

      word_found : (w : ℕ) → w < f.depth → corrected_word f frame.slots frame.marks w ≡ some (word w)
      unfolding corrected_word word_in
      word_found w l = word_corrected (word_setting f) code_allowed _ _ (word w) (word_came w l)

      none_beyond : beyond f frame.slots frame.marks ≡ f.depth
      unfolding beyond
      none_beyond = first_none f.depth (λ w. is_none (corrected_word f frame.slots frame.marks w)) λ w l. rw (word_found w l)

      area_found : area_received f frame.slots frame.marks ≡ area
      unfolding area_received message_of
      area_found =
          joined_front k (message_of f frame.slots frame.marks) area f.depth (λ w l. rw (word_found w l) (encoded_message (word_setting f) code_allowed (message w) (message_size_lem w l) (message_bytes w l)))
          ∙ take_all (area_size f) area (omega (arith, area_size_lem))

      -- where a word was changed, its slot is not as it was sent
      changed_at : (w i : ℕ) → w < f.depth → i < f.n → at (changes_at f frame.slots frame.marks w) i ≡ change_at frame.slots a.sent (i * f.depth + w)
      unfolding changes_at
      changed_at w i l u =
          let received : List ℕ = word_in f.depth f.n frame.slots w in
          ap (λ (o : Option (List ℕ)). at (changes received (get_or o [])) i) (word_found w l)
          ∙ changes_at_lem received (word w) i (rw (length_word f.depth f.n frame.slots w) u)
          ∙ ap₂ change_of (ap (λ (z : List ℕ). at z i) (word_rule f.depth f.n frame.slots w) ∙ get_or_tabulate f.n _ i 0 u)
          (sym (ap (λ (z : List ℕ). at z i) (slots_hold a.sent a.sending w l)) ∙ get_or_tabulate f.n _ i 0 u)

      changes_size : (w : ℕ) → w < f.depth → length (changes_at f frame.slots frame.marks w) ≡ f.n
      unfolding changes_at
      changes_size w l = length_changes (word_in f.depth f.n frame.slots w) _ ∙ length_word f.depth f.n frame.slots w

      map_found : map_received f frame.slots frame.marks ≡ changes frame.slots a.sent
      unfolding map_received changes
      map_found = spread_rule f.depth f.n _ ∙ rw a.channel.slots_size (tabulate_same (slot_count f) _ _ λ s h.
          let some : 0 < f.depth = omega (arith, limits.some) in
          let w : s % f.depth < f.depth = mod-lt s some in
          let i : s / f.depth < f.n = (div-lt_iff_lt-mul some).1 h in
          joined_at f.n (changes_at f frame.slots frame.marks) f.depth changes_size (s % f.depth) (s / f.depth) w i
          ∙ changed_at (s % f.depth) (s / f.depth) w i ∙ ap (change_at frame.slots a.sent) (div-add-mod' s f.depth))

      payload_found : payload_of answer area ≡ m.payload
      payload_found =
          let back : ℕ = length m.payload in
          let e : length area - 4 - (length area - 4 - back) ≡ back = omega (arith, area_size_lem, room) in
          sym (payload_there numbers area (omega (arith, area_size_lem, room))) ∙ rw (e, area_size_lem) payload_sent

      abbrev map : List ℕ
      map = map_received f frame.slots frame.marks

      answered_so : (lent lent_map : List ℕ) → length lent ≡ area_size f → length lent_map ≡ slot_count f → Receives f frame.slots frame.marks lent lent_map answer area map
      answered_so lent lent_map size map_size =
          receive_decoded f frame.slots frame.marks lent lent_map
          (record { limits = limits; slots_size = a.channel.slots_size; marks_size = a.channel.marks_size; marks_small = a.channel.zero_or_one; area_size_lem = size; map_size = map_size }) answer area map
          (settled_good numbers.figures area map (omega (arith, area_size_lem, room)) (rw area_size_lem trailer_good_lem) m.sequence (length m.payload) (rw area_size_lem (sym sequence_sent)) (rw area_size_lem (sym back_sent))
          ∙ decoded_settled f frame.slots frame.marks none_beyond (length area) numbers.figures area map area_size_lem refl (sym area_found) refl)

      -- no other answer meets the promise
      comes_back : (r : Answer) → Answers f frame r → ComesBack m r
      comes_back r p =
          let (x, y, _) = receives_once p.promise (answered_so p.lent p.lent_map p.lent_size p.map_size) in
          record {
            number = ap (λ (z : Result Received ReceiveError). number_of z) x;
            payload = ap₂ payload_of x y ∙ payload_found;
            sequence = ap (λ (z : Result Received ReceiveError). (received_of z).sequence) x;
          }

      pub map_tells : (r : Answer) → Answers f frame r → r.map ≡ changes frame.slots a.sent
      map_tells r p = (receives_once p.promise (answered_so p.lent p.lent_map p.lent_size p.map_size)).2 ∙ map_found

      -- and there is one, whatever area of A bytes and map of n·J marks are lent
      pub answered_in : (lent lent_map : List ℕ) → length lent ≡ area_size f → length lent_map ≡ slot_count f
          → (r : Answer) × Receives f frame.slots frame.marks lent lent_map r.received r.area r.map
      answered_in lent lent_map size map_size = (record { received = answer; area = area; map = map }, answered_so lent lent_map size map_size)

      pub some_answer : (r : Answer) × Answers f frame r
      some_answer = (
        record { received = answer; area = area; map = map },
        record {
          lent = replicate (area_size f) 0;
          lent_size = length-replicate (area_size f) 0;
          lent_map = replicate (slot_count f) 0;
          map_size = length-replicate (slot_count f) 0;
          promise = answered_so _ _ (length-replicate (area_size f) 0) (length-replicate (slot_count f) 0);
        },
      )

pub frame_comes_back : FrameComesBack
frame_comes_back f ok m frame r a p = comes_back f ok m a.sending.fits frame a r p

pub frame_map_tells : FrameMapTells
frame_map_tells f ok m frame r a p = map_tells f ok m a.sending.fits frame a r p
