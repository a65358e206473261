-- What each call on a cross line answers, and leaves in all that was lent to it (document 01, Cross line and Numbers a call can answer), and that
-- no second answer meets its promise (What each call owes its caller).
-- Assumes nothing.
use Rattle.std.specs.Prelude.{◌≡◌, Result, Ok, Err, true, false, List, ℕ, length, replicate}
use Rattle.std.proofs.Common.{sym, ap, ◌∙◌}
use Rattle.algebra.specs.Refusal.{if_zero}
use Rattle.cross.specs.Numbers.{cross_error}
use Rattle.cross.specs.Cross.{outer_word, inner_word, due, stored, after, passed_on, marks_of, map_of, settled, told, size_refusal, send_refusal, fresh_refusal, receive_refusal}
use Rattle.cross.specs.declared.position.CrossError.{CrossError}
use Rattle.cross.specs.declared.position.Received.{Received}

-- the answers: the position for the next call, of a frame received with its figures; or why the call is refused
abbrev pub Ready : Type 0
Ready = Result ℕ CrossError

abbrev pub FrameAnswer : Type 0
FrameAnswer = Result Received CrossError

-- the position for the next call, by the answer of one at position p: where that is refused the position stays
abbrev pub position_then : ℕ → Ready → ℕ
position_then p (Ok later) = later
position_then p (Err e) = p

abbrev pub position_received : ℕ → FrameAnswer → ℕ
position_received p (Ok r) = r.position
position_received p (Err e) = p

-- what a frame received gives: its answer, both memories, the message bytes and the map
abbrev pub Five : Type 0 → Type 0
Five A = A × List ℕ × List ℕ × List ℕ × List ℕ

-- ---- a fresh line: position 0, the bytes zeros, the marks 1

abbrev pub fresh_sender : List ℕ → Ready × List ℕ
fresh_sender m =
    let k = size_refusal (length m) in
    if_zero k (Ok 0, replicate 1512 0) (Err (cross_error k), m)

pub record FreshSender (m : List ℕ) (r : Ready) (left : List ℕ) : Type 0 where
  pub outcome : ◌≡◌ {A = Ready × List ℕ} (r, left) (fresh_sender m)

abbrev pub fresh_receiver : List ℕ → List ℕ → Ready × List ℕ × List ℕ
fresh_receiver m ms =
    let k = fresh_refusal (length m) (length ms) in
    if_zero k (Ok 0, replicate 1512 0, replicate 1512 1) (Err (cross_error k), m, ms)

pub record FreshReceiver (m ms : List ℕ) (r : Ready) (left left_marks : List ℕ) : Type 0 where
  pub outcome : ◌≡◌ {A = Ready × List ℕ × List ℕ} (r, left, left_marks) (fresh_receiver m ms)

-- ---- a frame sent: at position p, with memory m, a message and a lent word

abbrev pub sending : ℕ → List ℕ → List ℕ → List ℕ → Ready × List ℕ × List ℕ
sending p m message word =
    let k = send_refusal p (length m) (length message) (length word) in
    let outer = outer_word message in
    if_zero k (Ok (after 0 p), stored false p m outer, inner_word (due false p m outer) word) (Err (cross_error k), m, word)

pub record Send (p : ℕ) (m message word : List ℕ) (r : Ready) (left out : List ℕ) : Type 0 where
  pub outcome : ◌≡◌ {A = Ready × List ℕ × List ℕ} (r, left, out) (sending p m message word)

-- ---- a frame received: at position p, with the memories m and ms, an inner word, the lent message bytes and the lent map

abbrev pub receiving : ℕ → (m ms word message map : List ℕ) → Five FrameAnswer
receiving p m ms word message map =
    let k = receive_refusal p (length m) ms (length word) (length message) (length map) in
    let o = settled p (due true p m (passed_on word)) (due true p ms (marks_of word)) message in
    if_zero k
    (Ok (record { position = after 108 p; figures = told o }), stored true p m (passed_on word), stored true p ms (marks_of word), o.message, map_of word)
    (Err (cross_error k), m, ms, message, map)

pub record Receive (p : ℕ) (m ms word message map : List ℕ) (r : FrameAnswer) (left left_marks out left_map : List ℕ) : Type 0 where
  pub outcome : ◌≡◌ {A = Five FrameAnswer} (r, left, left_marks, out, left_map) (receiving p m ms word message map)

-- ---- no second answer

module _ {A : Type 0} {r s : A} {x y : List ℕ} where
  pub two : ◌≡◌ {A = A × List ℕ} (r, x) (s, y) → (r ≡ s) × (x ≡ y)
  two e = (ap (λ (z : A × List ℕ). z.0) e, ap (λ (z : A × List ℕ). z.1) e)

  module _ {u v : List ℕ} where
    pub three : ◌≡◌ {A = A × List ℕ × List ℕ} (r, x, u) (s, y, v) → (r ≡ s) × (x ≡ y) × (u ≡ v)
    three e = (ap (λ (z : A × List ℕ × List ℕ). z.0) e, ap (λ (z : A × List ℕ × List ℕ). z.1) e, ap (λ (z : A × List ℕ × List ℕ). z.2) e)

    pub five : {c d f g : List ℕ} → ◌≡◌ {A = Five A} (r, x, u, c, f) (s, y, v, d, g) → (r ≡ s) × (x ≡ y) × (u ≡ v) × (c ≡ d) × (f ≡ g)
    five e = (ap (λ (z : Five A). z.0) e, ap (λ (z : Five A). z.1) e, ap (λ (z : Five A). z.2) e, ap (λ (z : Five A). z.3) e, ap (λ (z : Five A). z.4) e)

pub fresh_sender_once : (m : List ℕ) (r s : Ready) (x y : List ℕ) → FreshSender m r x → FreshSender m s y → (r ≡ s) × (x ≡ y)
fresh_sender_once m r s x y p q = two (p.outcome ∙ sym q.outcome)

pub fresh_receiver_once : (m ms : List ℕ) (r s : Ready) (x y u v : List ℕ) → FreshReceiver m ms r x u → FreshReceiver m ms s y v → (r ≡ s) × (x ≡ y) × (u ≡ v)
fresh_receiver_once m ms r s x y u v p q = three (p.outcome ∙ sym q.outcome)

pub send_once : (p : ℕ) (m message word : List ℕ) (r s : Ready) (x y u v : List ℕ) → Send p m message word r x u → Send p m message word s y v → (r ≡ s) × (x ≡ y) × (u ≡ v)
send_once p m message word r s x y u v a b = three (a.outcome ∙ sym b.outcome)

pub receive_once : (p : ℕ) (m ms word message map : List ℕ) (r s : FrameAnswer) (x y u v c d f g : List ℕ)
    → Receive p m ms word message map r x u c f → Receive p m ms word message map s y v d g → (r ≡ s) × (x ≡ y) × (u ≡ v) × (c ≡ d) × (f ≡ g)
receive_once p m ms word message map r s x y u v c d f g a b = five (a.outcome ∙ sym b.outcome)
