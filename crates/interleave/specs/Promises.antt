-- What each call on a delay line answers and leaves in all that was lent to it (document 01, Delay line), and that no second answer meets its
-- promise (document 01, What each call owes its caller).
-- Assumes nothing.
use Rattle.std.specs.Prelude.{◌≡◌, refl, Result, Ok, Err, Bool, true, false, List, [], ◌∷◌, ℕ, ◌+◌, ◌%◌, length, replicate}
use Rattle.std.proofs.Common.{sym, ap, ◌∙◌}
use Rattle.algebra.specs.Refusal.{if_zero}
use Rattle.rings.specs.Rings.{order}
use Rattle.rings.specs.Delay.{line_out, line_kept}
use Rattle.interleave.specs.Numbers.{line_number, line_error, number_of, line_numbered}
use Rattle.interleave.specs.Line.{period}
use Rattle.interleave.specs.Setting.{memory_size, line_at, moved, line_run, line_refusal, receiver_refusal, receive_refusal, line_numbers, receiver_numbers, receive_numbers}
use Rattle.interleave.specs.declared.line.Line.{Line}
use Rattle.interleave.specs.declared.line.LineError.{LineError}
use Rattle.interleave.specs.declared.line.Sent.{Sent}
use Rattle.interleave.specs.declared.line.Received.{Received}

-- the answers: the line for the next call, alone or with what leaves at a step; or why the call is refused
abbrev pub Ready : Type 0
Ready = Result Line LineError

abbrev pub SentAnswer : Type 0
SentAnswer = Result Sent LineError

abbrev pub ReceivedAnswer : Type 0
ReceivedAnswer = Result Received LineError

-- what a run of the receiver gives: its answer, both memories, bytes and marks
abbrev Five : Type 0
Five = Ready × List ℕ × List ℕ × List ℕ × List ℕ

-- ---- a fresh line: position 0, and every byte of a memory is d: 0 for bytes, 1 for marks

abbrev pub blank : ℕ → ℕ → ℕ → List ℕ
blank I M d = replicate (memory_size I M) d

unfoldable pub fresh_sender : ℕ → ℕ → ℕ → List ℕ → Ready × List ℕ
fresh_sender I M n m =
    let l = line_at I M n 0 in
    let k = line_refusal l (length m) in
    if_zero k (Ok l, blank I M 0) (Err (line_error k), m)

pub record FreshSender (I M n : ℕ) (m : List ℕ) (r : Ready) (left : List ℕ) : Type 0 where
  pub outcome : ◌≡◌ {A = Ready × List ℕ} (r, left) (fresh_sender I M n m)

unfoldable pub fresh_receiver : ℕ → ℕ → ℕ → List ℕ → List ℕ → Ready × List ℕ × List ℕ
fresh_receiver I M n m ms =
    let l = line_at I M n 0 in
    let k = receiver_refusal l (length m) (length ms) in
    if_zero k (Ok l, blank I M 0, blank I M 1) (Err (line_error k), m, ms)

pub record FreshReceiver (I M n : ℕ) (m ms : List ℕ) (r : Ready) (left left_marks : List ℕ) : Type 0 where
  pub outcome : ◌≡◌ {A = Ready × List ℕ × List ℕ} (r, left, left_marks) (fresh_receiver I M n m ms)

-- ---- a step: one turn of the ring of the branch that is due

abbrev pub step_out : Bool → Line → List ℕ → ℕ → ℕ
step_out back l m b = line_out (order back l.branches) l.branches l.unit m l.position b

abbrev pub step_kept : Bool → Line → List ℕ → ℕ → List ℕ
step_kept back l m b = line_kept (order back l.branches) l.branches l.unit m l.position b

-- the line a step later: after the last position comes 0
abbrev pub advanced : Line → Line
advanced l = moved l ((l.position + 1) % period l.branches l.unit)

unfoldable pub send_step : Line → List ℕ → ℕ → SentAnswer × List ℕ
send_step l m b =
    let k = line_refusal l (length m) in
    if_zero k (Ok (record { byte = step_out false l m b; line = advanced l }), step_kept false l m b) (Err (line_error k), m)

pub record SendStep (l : Line) (m : List ℕ) (b : ℕ) (r : SentAnswer) (left : List ℕ) : Type 0 where
  pub outcome : ◌≡◌ {A = SentAnswer × List ℕ} (r, left) (send_step l m b)

-- refused as a run over the one byte with its mark
unfoldable pub receive_step : Line → List ℕ → List ℕ → ℕ → ℕ → ReceivedAnswer × List ℕ × List ℕ
receive_step l m ms b k =
    let e = receive_refusal l (length m) ms 1 (k ∷ []) in
    if_zero e (Ok (record { byte = step_out true l m b; mark = step_out true l ms k; line = advanced l }), step_kept true l m b, step_kept true l ms k)
    (Err (line_error e), m, ms)

pub record ReceiveStep (l : Line) (m ms : List ℕ) (b k : ℕ) (r : ReceivedAnswer) (left left_marks : List ℕ) : Type 0 where
  pub outcome : ◌≡◌ {A = ReceivedAnswer × List ℕ × List ℕ} (r, left, left_marks) (receive_step l m ms b k)

-- ---- a run: as many steps as bytes, and under a refusal none

unfoldable pub send_run : Line → List ℕ → List ℕ → Ready × List ℕ × List ℕ
send_run l m bs =
    let k = line_refusal l (length m) in
    let z = line_run false l m bs in
    if_zero k (Ok (moved l z.position), z.memory, z.out) (Err (line_error k), m, bs)

pub record SendRun (l : Line) (m bs : List ℕ) (r : Ready) (left out : List ℕ) : Type 0 where
  pub outcome : ◌≡◌ {A = Ready × List ℕ × List ℕ} (r, left, out) (send_run l m bs)

-- bytes and marks are two runs at one position
unfoldable pub receive_run : Line → List ℕ → List ℕ → List ℕ → List ℕ → Five
receive_run l m ms bs ks =
    let k = receive_refusal l (length m) ms (length bs) ks in
    let z = line_run true l m bs in
    let y = line_run true l ms ks in
    if_zero k (Ok (moved l z.position), z.memory, y.memory, z.out, y.out) (Err (line_error k), m, ms, bs, ks)

pub record ReceiveRun (l : Line) (m ms bs ks : List ℕ) (r : Ready) (left left_marks out out_marks : List ℕ) : Type 0 where
  pub outcome : ◌≡◌ {A = Five} (r, left, left_marks, out, out_marks) (receive_run l m ms bs ks)

-- ---- what a caller reads of an answer: the line for the next call, the byte that leaves, and its mark. Under a refusal the line is the one
-- that was handed in, and byte and mark are 0.

abbrev pub line_after : Line → Ready → Line
line_after l (Ok later) = later
line_after l (Err e) = l

abbrev pub line_after_sent : Line → SentAnswer → Line
line_after_sent l (Ok r) = r.line
line_after_sent l (Err e) = l

abbrev pub line_after_received : Line → ReceivedAnswer → Line
line_after_received l (Ok r) = r.line
line_after_received l (Err e) = l

abbrev pub byte_sent : SentAnswer → ℕ
byte_sent (Ok r) = r.byte
byte_sent (Err e) = 0

abbrev pub byte_received : ReceivedAnswer → ℕ
byte_received (Ok r) = r.byte
byte_received (Err e) = 0

abbrev pub mark_received : ReceivedAnswer → ℕ
mark_received (Ok r) = r.mark
mark_received (Err e) = 0

-- ---- no second answer

two : {A : Type 0} (r s : A) (x y : List ℕ) → ◌≡◌ {A = A × List ℕ} (r, x) (s, y) → (r ≡ s) × (x ≡ y)
two {A = A} r s x y e = (ap (λ (z : A × List ℕ). z.0) e, ap (λ (z : A × List ℕ). z.1) e)

three : {A : Type 0} (r s : A) (x y u v : List ℕ) → ◌≡◌ {A = A × List ℕ × List ℕ} (r, x, u) (s, y, v) → (r ≡ s) × (x ≡ y) × (u ≡ v)
three {A = A} r s x y u v e = (ap (λ (z : A × List ℕ × List ℕ). z.0) e, ap (λ (z : A × List ℕ × List ℕ). z.1) e, ap (λ (z : A × List ℕ × List ℕ). z.2) e)

five : (r s : Ready) (x y u v a b c d : List ℕ) → ◌≡◌ {A = Five} (r, x, u, a, c) (s, y, v, b, d)
    → (r ≡ s) × (x ≡ y) × (u ≡ v) × (a ≡ b) × (c ≡ d)
five r s x y u v a b c d e = (part (λ z. z.0), part (λ z. z.1), part (λ z. z.2), part (λ z. z.3), part (λ z. z.4))
  where
    part : {B : Type 0} (f : Five → B) → f (r, x, u, a, c) ≡ f (s, y, v, b, d)
    part f = ap f e

pub fresh_sender_once : (I M n : ℕ) (m : List ℕ) (r s : Ready) (x y : List ℕ) → FreshSender I M n m r x → FreshSender I M n m s y → (r ≡ s) × (x ≡ y)
fresh_sender_once I M n m r s x y p q = two r s x y (p.outcome ∙ sym q.outcome)

pub fresh_receiver_once : (I M n : ℕ) (m ms : List ℕ) (r s : Ready) (x y u v : List ℕ) → FreshReceiver I M n m ms r x u → FreshReceiver I M n m ms s y v → (r ≡ s) × (x ≡ y) × (u ≡ v)
fresh_receiver_once I M n m ms r s x y u v p q = three r s x y u v (p.outcome ∙ sym q.outcome)

pub send_step_once : (l : Line) (m : List ℕ) (b : ℕ) (r s : SentAnswer) (x y : List ℕ) → SendStep l m b r x → SendStep l m b s y → (r ≡ s) × (x ≡ y)
send_step_once l m b r s x y p q = two r s x y (p.outcome ∙ sym q.outcome)

pub receive_step_once : (l : Line) (m ms : List ℕ) (b k : ℕ) (r s : ReceivedAnswer) (x y u v : List ℕ) → ReceiveStep l m ms b k r x u → ReceiveStep l m ms b k s y v → (r ≡ s) × (x ≡ y) × (u ≡ v)
receive_step_once l m ms b k r s x y u v p q = three r s x y u v (p.outcome ∙ sym q.outcome)

pub send_run_once : (l : Line) (m bs : List ℕ) (r s : Ready) (x y u v : List ℕ) → SendRun l m bs r x u → SendRun l m bs s y v → (r ≡ s) × (x ≡ y) × (u ≡ v)
send_run_once l m bs r s x y u v p q = three r s x y u v (p.outcome ∙ sym q.outcome)

pub receive_run_once : (l : Line) (m ms bs ks : List ℕ) (r s : Ready) (x y u v a b c d : List ℕ) → ReceiveRun l m ms bs ks r x u a c → ReceiveRun l m ms bs ks s y v b d
    → (r ≡ s) × (x ≡ y) × (u ≡ v) × (a ≡ b) × (c ≡ d)
receive_run_once l m ms bs ks r s x y u v a b c d p q = five r s x y u v a b c d (p.outcome ∙ sym q.outcome)

-- ---- the answer's number is the paper's

pub fresh_sender_number : (I M n : ℕ) (m : List ℕ) (r : Ready) (left : List ℕ) → FreshSender I M n m r left → number_of line_number r ≡ line_refusal (line_at I M n 0) (length m)
unfolding fresh_sender
fresh_sender_number I M n m r left p =
    ap (λ (z : Ready × List ℕ). number_of line_number z.0) p.outcome ∙ line_numbered (λ (z : Ready × List ℕ). z.0) _ _ _ (line_numbers _ _) refl refl

pub fresh_receiver_number : (I M n : ℕ) (m ms : List ℕ) (r : Ready) (x y : List ℕ) → FreshReceiver I M n m ms r x y
    → number_of line_number r ≡ receiver_refusal (line_at I M n 0) (length m) (length ms)
unfolding fresh_receiver
fresh_receiver_number I M n m ms r x y p =
    ap (λ (z : Ready × List ℕ × List ℕ). number_of line_number z.0) p.outcome
    ∙ line_numbered (λ (z : Ready × List ℕ × List ℕ). z.0) _ _ _ (receiver_numbers _ _ _) refl refl

pub send_step_number : (l : Line) (m : List ℕ) (b : ℕ) (r : SentAnswer) (left : List ℕ) → SendStep l m b r left → number_of line_number r ≡ line_refusal l (length m)
unfolding send_step
send_step_number l m b r left p =
    ap (λ (z : SentAnswer × List ℕ). number_of line_number z.0) p.outcome ∙ line_numbered (λ (z : SentAnswer × List ℕ). z.0) _ _ _ (line_numbers _ _) refl refl

pub receive_step_number : (l : Line) (m ms : List ℕ) (b k : ℕ) (r : ReceivedAnswer) (x y : List ℕ) → ReceiveStep l m ms b k r x y
    → number_of line_number r ≡ receive_refusal l (length m) ms 1 (k ∷ [])
unfolding receive_step
receive_step_number l m ms b k r x y p =
    ap (λ (z : ReceivedAnswer × List ℕ × List ℕ). number_of line_number z.0) p.outcome
    ∙ line_numbered (λ (z : ReceivedAnswer × List ℕ × List ℕ). z.0) _ _ _ (receive_numbers _ _ _ _ _) refl refl

pub send_run_number : (l : Line) (m bs : List ℕ) (r : Ready) (left out : List ℕ) → SendRun l m bs r left out → number_of line_number r ≡ line_refusal l (length m)
unfolding send_run
send_run_number l m bs r left out p =
    ap (λ (z : Ready × List ℕ × List ℕ). number_of line_number z.0) p.outcome
    ∙ line_numbered (λ (z : Ready × List ℕ × List ℕ). z.0) _ _ _ (line_numbers _ _) refl refl

pub receive_run_number : (l : Line) (m ms bs ks : List ℕ) (r : Ready) (x y a b : List ℕ) → ReceiveRun l m ms bs ks r x y a b
    → number_of line_number r ≡ receive_refusal l (length m) ms (length bs) ks
unfolding receive_run
receive_run_number l m ms bs ks r x y a b p =
    ap (λ (z : Five). number_of line_number z.0) p.outcome ∙ line_numbered (λ (z : Five). z.0) _ _ _ (receive_numbers _ _ _ _ _) refl refl
