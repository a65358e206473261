-- Messages sent over a cross line come back 108 frames later, as long as no inner word has more than two wrong bytes (document 01, Cross line).
-- All of it speaks of the promises of the line's calls. Assumes nothing.
use Rattle.std.specs.Prelude.{◌≡◌, refl, true, false, List, ℕ, ◌+◌, ◌-◌, ◌*◌, ◌<◌, T, length, take, replicate}
use Rattle.std.proofs.Common.{sym, ap, ap₂, ◌∙◌, arith, lit<, ext_get_or, length-take-le}
use Rattle.std.proofs.Math.Decide.{dec_lt}
use Rattle.std.proofs.lemmas.List.{length-replicate, get_or-replicate}
use Rattle.algebra.specs.Tests.{at, below, below_at, below_all}
use Rattle.word.specs.Word.{marked}
use Rattle.word.specs.Codeword.{is_codeword, codeword}
use Rattle.word.specs.Distance.{total_zero, errors_self, bits_self}
use Rattle.word.specs.Code.{encoded}
use Rattle.word.specs.Map.{changes}
use Rattle.word.specs.Answers.{no_figures, figures}
use Rattle.word.specs.declared.Figures.{Figures}
use Rattle.cross.specs.Cross.{outer_code, inner_code, outer_word, passed_on, mark_of, marks_of, map_of, without_figures, closed}
use Rattle.cross.specs.Codes.{outer_allowed, inner_allowed, outer_encoded, inner_encoded, inner_given, outer_given}
use Rattle.cross.specs.Frames.{due_size}
use Rattle.cross.specs.Calls.{due_sent, sent_held, sends, ReceiverCalls, due_bytes, due_marks, seen, receives}
use Rattle.cross.specs.Promises.{FrameAnswer}
use Rattle.coverage.proofs.Words.{encoded_code, encoded_size, encoded_message, Came, part_given}
use Rattle.coverage.specs.CrossBack.{CrossSent, CrossArrives, CrossComesBack}

-- ---- no marks, and no difference

zeros_at : (n i : ℕ) → i < n → at (replicate n 0) i ≡ 0
zeros_at n i h = get_or-replicate n i 0 0 h

zeros_below : (n : ℕ) → T (below 2 (replicate n 0))
zeros_below n = below_all 2 (replicate n 0) λ i h. let z = zeros_at n i (rw (length-replicate {A = ℕ} n 0) at h) in omega arith

none_marked : (n : ℕ) (word : List ℕ) → length word ≡ n → marked (replicate n 0) word ≡ 0
unfolding marked
none_marked n word e = total_zero (length word) (at (replicate n 0)) λ i h. zeros_at n i (omega arith)

no_figures_lem : (word : List ℕ) → length word ≡ 28 → figures (replicate 28 0) word word ≡ no_figures
no_figures_lem word e = rw (errors_self (replicate 28 0) word, none_marked 28 word e, bits_self word)

-- ---- what is sent: codewords, outer and inner

module _ (many : ℕ) (messages words : ℕ → List ℕ) (a : CrossSent many messages words) where
  module _ (F : ℕ) (h : F < many) where
    size : length (messages F) ≡ 24
    size = a.calls.message_size_lem F h

    outer : outer_word (messages F) ≡ encoded outer_code (messages F)
    outer = outer_encoded (messages F) size (a.bytes F h)

    outer_code_lem : T (is_codeword outer_code (encoded outer_code (messages F)))
    outer_code_lem = encoded_code outer_code outer_allowed (messages F) size (a.bytes F h)

    outer_byte : (i : ℕ) → at (outer_word (messages F)) i < 256
    outer_byte i = rw outer (below_at 256 _ (codeword outer_code _ outer_code_lem).small i (lit< tt))

  due_byte : (F i : ℕ) → F < many → i < 28 → at (due_sent messages F) i < 256
  due_byte F i h l =
      let held = sent_held messages F i l in
      elim (dec_lt F (4 * i)) [
        | yes u ↦ rw (held.early u) (lit< tt)
        | no u ↦ rw (held.late (F - 4 * i) (omega arith)) (outer_byte (F - 4 * i) (omega arith) i)
      ]

  module _ (F : ℕ) (h : F < many) where
    sized : length (due_sent messages F) ≡ 28
    sized = due_size false 0 0 (λ G. outer_word (messages G)) F

    due_bytes_lem : T (below 256 (due_sent messages F))
    due_bytes_lem = below_all 256 (due_sent messages F) λ i l. due_byte F i h (rw sized at l)

    inner : words F ≡ encoded inner_code (due_sent messages F)
    inner = (sends many messages words a.calls F h).1 ∙ inner_encoded (due_sent messages F) (a.calls.over F) sized (a.calls.over_size F h) due_bytes_lem

    inner_code_lem : T (is_codeword inner_code (words F))
    inner_code_lem = rw inner (encoded_code inner_code inner_allowed (due_sent messages F) sized due_bytes_lem)

    front : take 28 (words F) ≡ due_sent messages F
    front = rw inner (encoded_message inner_code inner_allowed (due_sent messages F) sized due_bytes_lem)

-- words that came undamaged are words that came
pub undamaged : (many : ℕ) (messages words : ℕ → List ℕ) → CrossSent many messages words → CrossArrives many messages words
undamaged many messages words a = record {
  words = words;
  sent = a;
  bytes = λ F h. (codeword inner_code (words F) (inner_code_lem many messages words a F h)).small;
  near = λ F h. omega (arith, errors_self (replicate 32 0) (words F));
}

-- ---- a line whose inner words are all restored

module _ (many : ℕ) (messages came : ℕ → List ℕ) (a : CrossArrives many messages came) where
  -- an inner word with at most two wrong bytes passes on what was due, unmarked
  module _ (F : ℕ) (h : F < many) (n : length (came F) ≡ 32) where
    came_so : Came inner_code (a.words F) (came F) (replicate 32 0)
    came_so = record {
      code = inner_code_lem many messages a.words a.sent F h;
      near = omega (arith, a.near F h, none_marked 32 (came F) n);
      size = n;
      marks_size = length-replicate {A = ℕ} 32 0;
      bytes = a.bytes F h;
      zero_or_one = zeros_below 32;
    }

    given_on : (0 ≡ mark_of (came F)) × (take 28 (a.words F) ≡ passed_on (came F)) × (changes (came F) (a.words F) ≡ map_of (came F))
    given_on =
        let size : length {A = ℕ} (replicate 32 0) ≡ 32 = length-replicate {A = ℕ} 32 0 in
        inner_given (came F) n (a.bytes F h) (replicate 32 0) size _ _ _
        (part_given inner_code inner_allowed (replicate 32 0) (came F) (a.words F) came_so (replicate 32 0) size (take 28 (came F)) (length-take-le 28 (came F) (omega arith)))

    passed_on_lem : passed_on (came F) ≡ due_sent messages F
    passed_on_lem = sym given_on.1 ∙ front many messages a.words a.sent F h

  module _ (answers : ℕ → FrameAnswer) (back : ℕ → List ℕ) (r : ReceiverCalls many came answers back) (F : ℕ) (h : F + 108 < many) where
    -- byte i of the message's outer word left with frame F + 4i, and is due with frame F + 108
    byte_back : (i : ℕ) → i < 28 → at (due_bytes came (F + 108)) i ≡ at (encoded outer_code (messages F)) i
    byte_back i l =
        let k : F + 4 * i < many = omega arith in
        (seen came F i l).0
        ∙ ap (λ (w : List ℕ). at w i) (passed_on_lem (F + 4 * i) k (r.word_size (F + 4 * i) k))
        ∙ (sent_held messages (F + 4 * i) i l).late F refl
        ∙ ap (λ (w : List ℕ). at w i) (outer many messages a.words a.sent F (omega arith))

    mark_back : (i : ℕ) → i < 28 → at (due_marks came (F + 108)) i ≡ 0
    mark_back i l =
        let k : F + 4 * i < many = omega arith in
        (seen came F i l).1 ∙ sym (given_on (F + 4 * i) k (r.word_size (F + 4 * i) k)).0

    bytes_size : length (due_bytes came (F + 108)) ≡ 28
    bytes_size = due_size true 108 0 (λ G. passed_on (came G)) (F + 108)

    marks_size : length (due_marks came (F + 108)) ≡ 28
    marks_size = due_size true 108 1 (λ G. marks_of (came G)) (F + 108)

    word_size : length (encoded outer_code (messages F)) ≡ 28
    word_size = encoded_size outer_code outer_allowed (messages F) (size many messages a.words a.sent F (omega arith)) (a.sent.bytes F (omega arith))

    bytes_back : due_bytes came (F + 108) ≡ encoded outer_code (messages F)
    bytes_back = ext_get_or 0 _ _ (bytes_size ∙ sym word_size) λ i l. byte_back i (rw bytes_size at l)

    marks_back : due_marks came (F + 108) ≡ replicate 28 0
    marks_back = ext_get_or 0 _ _ (marks_size ∙ sym (length-replicate {A = ℕ} 28 0)) λ i l. let k = rw marks_size at l in mark_back i k ∙ sym (zeros_at 28 i k)

    clean : Came outer_code (encoded outer_code (messages F)) (encoded outer_code (messages F)) (replicate 28 0)
    clean = record {
      code = outer_code_lem many messages a.words a.sent F (omega arith);
      near = omega (arith, errors_self (replicate 28 0) (encoded outer_code (messages F)), none_marked 28 (encoded outer_code (messages F)) word_size);
      size = word_size;
      marks_size = length-replicate {A = ℕ} 28 0;
      bytes = (codeword outer_code _ (outer_code_lem many messages a.words a.sent F (omega arith))).small;
      zero_or_one = zeros_below 28;
    }

    closing : closed (encoded outer_code (messages F)) (replicate 28 0) (r.given (F + 108)) ≡ without_figures 0 (messages F)
    closing =
        sym (outer_given _ _ _ _ _ _
        (part_given outer_code outer_allowed (replicate 28 0) (encoded outer_code (messages F)) (encoded outer_code (messages F)) clean (replicate 28 0) (length-replicate {A = ℕ} 28 0) (r.given (F + 108)) (r.given_size (F + 108) h)))
        ∙ ap₂ (λ (f : Figures) (w : List ℕ). record { number = 0; figures = f; message = w }) (no_figures_lem (encoded outer_code (messages F)) word_size) (encoded_message outer_code outer_allowed (messages F) (size many messages a.words a.sent F (omega arith)) (a.sent.bytes F (omega arith)))

  -- Message F comes back with frame F + 108.
  pub cross_comes_back : (answers : ℕ → FrameAnswer) (back : ℕ → List ℕ) → ReceiverCalls many came answers back → CrossComesBack many messages answers back
  cross_comes_back answers back r F h =
      receives many came answers back r (F + 108) h (omega arith)
      ∙ rw (bytes_back answers back r F h, marks_back answers back r F h) (closing answers back r F h)

-- With no damage at all, too.
pub cross_comes_back_undamaged : (many : ℕ) (messages words : ℕ → List ℕ) (answers : ℕ → FrameAnswer) (back : ℕ → List ℕ) → CrossSent many messages words → ReceiverCalls many words answers back
    → CrossComesBack many messages answers back
cross_comes_back_undamaged many messages words answers back s = cross_comes_back many messages words (undamaged many messages words s) answers back
