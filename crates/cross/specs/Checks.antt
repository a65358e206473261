-- What is known of a call on a cross line that is not refused, which calls are not, and which numbers are answered (document 01, Cross line and
-- Numbers a call can answer).
-- Assumes nothing.
use Rattle.std.specs.Prelude.{◌≡◌, refl, ◌≢◌, Result, Ok, Err, true, List, ℕ, zero, suc, ◌+◌, ◌≤◌, ◌<◌, T, length, replicate}
use Rattle.std.proofs.Common.{sym, ap, ◌∙◌, arith}
use Rattle.std.proofs.Math.Decide.{ℕ_discrete, dec_lt}
use Rattle.algebra.specs.Sets.{put_elim}
use Rattle.algebra.specs.Tests.{below}
use Rattle.algebra.specs.Refusal.{need, if_zero, need_yes, need_zero, first_none, first_zero, passes}
use Rattle.interleave.specs.Numbers.{answered, number_of, passed, through, first_most}
use Rattle.word.specs.Answers.{no_figures, decoding_part}
use Rattle.word.specs.declared.Figures.{Figures}
use Rattle.cross.specs.Numbers.{cross_number, cross_error, cross_error_back, taken_number, taken_figures}
use Rattle.cross.specs.Cross.{outer_code, cycle, after, due, passed_on, marks_of, FrameOutcome, without_figures, closed, settled, told, frame_outcome, received, size_refusal, send_refusal, fresh_refusal, receive_refusal}
use Rattle.cross.specs.Promises.{Ready, FrameAnswer, Five, FreshSender, FreshReceiver, Send, Receive}
use Rattle.cross.specs.declared.position.NoMessage.{NoMessage}
use Rattle.cross.specs.declared.position.NoMessage.TheVariants.{NotYet, BeyondReach}

pub record SendFine (p memory message word : ℕ) : Type 0 where
  pub position : p < cycle
  pub memory_size : memory ≡ 1512
  pub message_size_lem : message ≡ 24
  pub word_size : word ≡ 32

pub send_fine : (p memory message word k : ℕ) → k ≡ send_refusal p memory message word → k ≡ 0 → SendFine p memory message word
unfolding send_refusal
send_fine p memory message word k e z =
    let (a, e₁) = need_zero (dec_lt p cycle) 1 _ (omega arith) (sym e ∙ z) in
    let (b, e₂) = need_zero (ℕ_discrete memory 1512) 2 _ (omega arith) e₁ in
    let (c, e₃) = need_zero (ℕ_discrete message 24) 2 _ (omega arith) e₂ in
    let (d, _) = need_zero (ℕ_discrete word 32) 2 _ (omega arith) e₃ in
    record { position = a; memory_size = b; message_size_lem = c; word_size = d }

pub send_done : (p memory message word : ℕ) → SendFine p memory message word → send_refusal p memory message word ≡ 0
unfolding send_refusal
send_done p memory message word f =
    sym (need_yes _ _ _ 0 f.position (need_yes _ _ _ 0 f.memory_size (need_yes _ _ _ 0 f.message_size_lem (need_yes _ _ _ 0 f.word_size refl))))

pub record ReceiveFine (p memory : ℕ) (held : List ℕ) (word message map : ℕ) : Type 0 where
  pub position : p < 108 + cycle
  pub memory_size : memory ≡ 1512
  pub held_size : length held ≡ 1512
  pub word_size : word ≡ 32
  pub message_size_lem : message ≡ 24
  pub map_size : map ≡ 32
  pub fit : T (below 2 held)

pub size_done : (memory : ℕ) → memory ≡ 1512 → size_refusal memory ≡ 0
size_done memory a = sym (need_yes _ _ _ 0 a refl)

pub fresh_fine : (memory held : ℕ) → fresh_refusal memory held ≡ 0 → (memory ≡ 1512) × (held ≡ 1512)
unfolding fresh_refusal
fresh_fine memory held e =
    let (a, e₁) = need_zero (ℕ_discrete memory 1512) 2 _ (omega arith) e in
    let (b, _) = need_zero (ℕ_discrete held 1512) 2 _ (omega arith) e₁ in
    (a, b)

pub fresh_done : (memory held : ℕ) → memory ≡ 1512 → held ≡ 1512 → fresh_refusal memory held ≡ 0
unfolding fresh_refusal
fresh_done memory held a b = sym (need_yes _ _ _ 0 a (need_yes _ _ _ 0 b refl))

pub receive_fine : (p memory : ℕ) (held : List ℕ) (word message map k : ℕ) → k ≡ receive_refusal p memory held word message map → k ≡ 0 → ReceiveFine p memory held word message map
unfolding receive_refusal
receive_fine p memory held word message map k e z =
    let (a, e₁) = need_zero (dec_lt p (108 + cycle)) 1 _ (omega arith) (sym e ∙ z) in
    let (b, e₂) = first_zero (fresh_refusal memory (length held)) _ e₁ in
    let (c, e₃) = need_zero (ℕ_discrete word 32) 2 _ (omega arith) e₂ in
    let (d, e₄) = need_zero (ℕ_discrete message 24) 2 _ (omega arith) e₃ in
    let (l, e₅) = need_zero (ℕ_discrete map 32) 2 _ (omega arith) e₄ in
    let (f, _) = need_zero (passes (below 2 held)) 3 _ (omega arith) e₅ in
    let (s, t) = fresh_fine memory (length held) b in
    record { position = a; memory_size = s; held_size = t; word_size = c; message_size_lem = d; map_size = l; fit = f }

-- a check that passes
pub receive_allowed : (p memory : ℕ) (held : List ℕ) (word message map : ℕ) (u : Unit {0}) → Ok u ≡ answered cross_error (receive_refusal p memory held word message map) tt → ReceiveFine p memory held word message map
receive_allowed p memory held word message map u e = receive_fine p memory held word message map 0 (sym (passed cross_error _ _ _ e)) refl

pub send_allowed : (p memory message word : ℕ) (u : Unit {0}) → Ok u ≡ answered cross_error (send_refusal p memory message word) tt → SendFine p memory message word
send_allowed p memory message word u e = send_fine p memory message word 0 (sym (passed cross_error _ _ _ e)) refl

pub receive_done : (p memory : ℕ) (held : List ℕ) (word message map : ℕ) → ReceiveFine p memory held word message map → receive_refusal p memory held word message map ≡ 0
unfolding receive_refusal
receive_done p memory held word message map f =
    sym (need_yes _ _ _ 0 f.position
    (first_none _ _ 0 (fresh_done memory (length held) f.memory_size f.held_size)
    (need_yes _ _ _ 0 f.word_size (need_yes _ _ _ 0 f.message_size_lem (need_yes _ _ _ 0 f.map_size (need_yes _ _ _ 0 f.fit refl))))))

-- ---- which numbers are answered

either : {A : Type 0} (k : ℕ) (a b : A) (B : A → Type 0) → B a → B b → B (if_zero k a b)
either zero a b B p q = p
either (suc k) a b B p q = q

-- the sender never answers 7 or 4
need_most : {P : Type 0} (w : Dec P) (a b k : ℕ) → a ≤ k → b ≤ k → need w a b ≤ k
unfolding need
need_most w a b k p q = put_elim w b a (λ z. z ≤ k) (λ _. q) (λ _. p)

refusal_most : (p memory message word : ℕ) → send_refusal p memory message word ≤ 2
unfolding send_refusal
refusal_most p memory message word =
    need_most _ 1 _ 2 (omega arith) (need_most _ 2 _ 2 (omega arith) (need_most _ 2 _ 2 (omega arith) (need_most _ 2 0 2 (omega arith) (omega arith))))

fresh_most : (memory held : ℕ) → fresh_refusal memory held ≤ 3
unfolding fresh_refusal
fresh_most memory held = need_most _ 2 _ 3 (omega arith) (need_most _ 2 0 3 (omega arith) (omega arith))

receive_most : (p memory : ℕ) (held : List ℕ) (word message map : ℕ) → receive_refusal p memory held word message map ≤ 3
unfolding receive_refusal
receive_most p memory held word message map =
    need_most _ 1 _ 3 (omega arith)
    (first_most _ _ 3 (fresh_most memory (length held))
    (need_most _ 2 _ 3 (omega arith) (need_most _ 2 _ 3 (omega arith) (need_most _ 2 _ 3 (omega arith) (need_most _ 3 0 3 (omega arith) (omega arith))))))

-- The number of an answer is the paper's.
refused_number : (k : ℕ) → k ≤ 3 → (a : ℕ) → number_of cross_number (answered cross_error k a) ≡ k
refused_number zero h a = refl
refused_number (suc k) h a = cross_error_back (suc k) (omega arith) h

pub fresh_sender_number : (m : List ℕ) (r : Ready) (left : List ℕ) → FreshSender m r left → number_of cross_number r ≡ size_refusal (length m)
fresh_sender_number m r left c =
    let k = size_refusal (length m) in
    ap (λ (z : Ready × List ℕ). number_of cross_number z.0) c.outcome
    ∙ ap (number_of cross_number) (through (λ (z : Ready × List ℕ). z.0) k _ _) ∙ refused_number k (need_most _ 2 0 3 (omega arith) (omega arith)) 0

pub fresh_receiver_number : (m ms : List ℕ) (r : Ready) (left held : List ℕ) → FreshReceiver m ms r left held → number_of cross_number r ≡ fresh_refusal (length m) (length ms)
fresh_receiver_number m ms r left held c =
    let k = fresh_refusal (length m) (length ms) in
    ap (λ (z : Ready × List ℕ × List ℕ). number_of cross_number z.0) c.outcome
    ∙ ap (number_of cross_number) (through (λ (z : Ready × List ℕ × List ℕ). z.0) k _ _) ∙ refused_number k (fresh_most (length m) (length ms)) 0

pub send_number : (p : ℕ) (m message word : List ℕ) (r : Ready) (left out : List ℕ) → Send p m message word r left out
    → number_of cross_number r ≡ send_refusal p (length m) (length message) (length word)
send_number p m message word r left out c =
    let k = send_refusal p (length m) (length message) (length word) in
    ap (λ (z : Ready × List ℕ × List ℕ). number_of cross_number z.0) c.outcome
    ∙ ap (number_of cross_number) (through (λ (z : Ready × List ℕ × List ℕ). z.0) k _ _)
    ∙ refused_number k (omega (arith, refusal_most p (length m) (length message) (length word))) (after 0 p)

pub send_numbers : (p : ℕ) (m message word : List ℕ) (r : Ready) (left out : List ℕ) → Send p m message word r left out → number_of cross_number r ≤ 2
send_numbers p m message word r left out c = rw (send_number p m message word r left out c) (refusal_most p (length m) (length message) (length word))

taken_plain : (r : Result Figures NoMessage) → taken_number r ≢ 0 → taken_figures r ≡ no_figures
taken_plain (Ok f) h = absurd (h refl)
taken_plain (Err e) h = refl

-- a frame's figures are 0 under any answer but 0
pub receive_figures : (r : FrameAnswer) (out : List ℕ) → (received r out).number ≢ 0 → (received r out).figures ≡ no_figures
receive_figures (Ok r) out h = taken_plain r.figures h
receive_figures (Err e) out h = refl

-- the code's figures are told by their outcome, ..
pub told_back : (r : Result Figures NoMessage) (message : List ℕ) → told (frame_outcome r message) ≡ r
told_back (Ok f) message = refl
told_back (Err NotYet) message = refl
told_back (Err BeyondReach) message = refl

-- .. and what becomes of a frame is told by its figures, or by why it gives no message
abbrev Told : FrameOutcome → Type 0
Told o = frame_outcome (told o) o.message ≡ o

pub settled_told : (p : ℕ) (bytes marks message : List ℕ) → Told (settled p bytes marks message)
unfolding settled closed
settled_told p bytes marks message =
    put_elim _ _ _ Told (λ _. refl) (λ _. either (decoding_part outer_code bytes marks message (replicate 28 0)).number _ _ Told refl refl)

-- A frame that is refused is numbered by the paper's refusal, and one that is taken is answered what becomes of it.
pub receive_number : (p : ℕ) (m ms word message map : List ℕ) (r : FrameAnswer) (left held out left_map : List ℕ) → Receive p m ms word message map r left held out left_map
    → let k = receive_refusal p (length m) ms (length word) (length message) (length map) in
    received r out ≡ if_zero k (settled p (due true p m (passed_on word)) (due true p ms (marks_of word)) message) (without_figures k message)
receive_number p m ms word message map r left held out left_map c =
    let k = receive_refusal p (length m) ms (length word) (length message) (length map) in
    let f : Five FrameAnswer → FrameOutcome = λ z. received z.0 z.3 in
    ap f c.outcome ∙ through f k _ _ ∙ sides k (receive_most p (length m) ms (length word) (length message) (length map)) (settled_told p _ _ message)
  where
    sides : (k : ℕ) → k ≤ 3 → {o : FrameOutcome} → Told o
        → if_zero k (frame_outcome (told o) o.message) (without_figures (cross_number (cross_error k)) message) ≡ if_zero k o (without_figures k message)
    sides zero h t = t
    sides (suc k) h t = ap (λ (z : ℕ). without_figures z message) (cross_error_back (suc k) (omega arith) h)
