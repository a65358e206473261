-- The delay line's calls for C (document 01, Delay line): the line at a position, what is seen of an answer, what each call promises, and
-- that no call has a second answer. The setting is the caller's and stays, so of a line only its position is seen.
-- Assumes nothing.
use Rattle.std.specs.Prelude.{◌≡◌, refl, Ok, Err, List, ℕ}
use Rattle.interleave.specs.Numbers.{line_number}
use Rattle.interleave.specs.Setting.{line_at}
use Rattle.interleave.specs.Promises.{Ready, SentAnswer, ReceivedAnswer, FreshSender, FreshReceiver, SendStep, SendRun, ReceiveStep, ReceiveRun, fresh_sender_once, fresh_receiver_once, send_step_once, send_run_once, receive_step_once, receive_run_once}
use Rattle.interleave.specs.declared.line.Line.{Line}
use Rattle.radio.specs.Shown.{Shows, shown_once}
use Rattle.radio.specs.declared.lines.LineSetting.{LineSetting}
use Rattle.radio.specs.declared.lines.Ready.{Ready as Seen}
use Rattle.radio.specs.declared.lines.LineSent.{LineSent}
use Rattle.radio.specs.declared.lines.LineReceived.{LineReceived}

abbrev pub line_of : LineSetting → ℕ → Line
line_of s p = line_at s.branches s.unit s.n p

-- of a call at a position: where it is refused the position stays, and no byte leaves
abbrev pub ready_seen : ℕ → Ready → Seen
ready_seen p (Ok l) = record { answer = 0; position = l.position }
ready_seen p (Err e) = record { answer = line_number e; position = p }

abbrev pub sent_seen : ℕ → SentAnswer → LineSent
sent_seen p (Ok t) = record { answer = 0; byte = t.byte; position = t.line.position }
sent_seen p (Err e) = record { answer = line_number e; byte = 0; position = p }

abbrev pub received_seen : ℕ → ReceivedAnswer → LineReceived
received_seen p (Ok t) = record { answer = 0; byte = t.byte; mark = t.mark; position = t.line.position }
received_seen p (Err e) = record { answer = line_number e; byte = 0; mark = 0; position = p }

-- ---- the promises, each of the line's own call with what is seen of its answer

module _ (s : LineSetting) where
  abbrev pub LineFreshSender : List ℕ → Seen → List ℕ → Type 0
  LineFreshSender m r left = Shows (ready_seen 0) (λ t. FreshSender s.branches s.unit s.n m t left) r

  abbrev pub LineFreshReceiver : List ℕ → List ℕ → Seen → List ℕ → List ℕ → Type 0
  LineFreshReceiver m ms r left held = Shows (ready_seen 0) (λ t. FreshReceiver s.branches s.unit s.n m ms t left held) r

  module _ (at : ℕ) (m : List ℕ) where
    abbrev pub LineSendStep : ℕ → LineSent → List ℕ → Type 0
    LineSendStep b r left = Shows (sent_seen at) (λ t. SendStep (line_of s at) m b t left) r

    abbrev pub LineSendRun : List ℕ → Seen → List ℕ → List ℕ → Type 0
    LineSendRun bs r left bytes = Shows (ready_seen at) (λ t. SendRun (line_of s at) m bs t left bytes) r

    abbrev pub LineReceiveStep : List ℕ → ℕ → ℕ → LineReceived → List ℕ → List ℕ → Type 0
    LineReceiveStep ms b k r left held = Shows (received_seen at) (λ t. ReceiveStep (line_of s at) m ms b k t left held) r

    abbrev pub LineReceiveRun : List ℕ → List ℕ → List ℕ → Seen → List ℕ → List ℕ → List ℕ → List ℕ → Type 0
    LineReceiveRun ms bs ks r left held bytes marks = Shows (ready_seen at) (λ t. ReceiveRun (line_of s at) m ms bs ks t left held bytes marks) r

-- ---- no second answer: of each call's answer, and of what it leaves in all that was lent

module _ (s : LineSetting) (m : List ℕ) where
  pub line_fresh_sender_once : (r q : Seen) (x y : List ℕ) → LineFreshSender s m r x → LineFreshSender s m q y → (r ≡ q) × (x ≡ y)
  line_fresh_sender_once r q x y p u =
      let (e, l) = fresh_sender_once _ _ _ m p.inner u.inner x y p.promised u.promised in
      (shown_once p u refl e, l)

  pub line_fresh_receiver_once : (ms : List ℕ) (r q : Seen) (x y v w : List ℕ) → LineFreshReceiver s m ms r x v → LineFreshReceiver s m ms q y w → (r ≡ q) × (x ≡ y) × (v ≡ w)
  line_fresh_receiver_once ms r q x y v w p u =
      let (e, l, h) = fresh_receiver_once _ _ _ m ms p.inner u.inner x y v w p.promised u.promised in
      (shown_once p u refl e, l, h)

  module _ (at : ℕ) where
    pub line_send_step_once : (b : ℕ) (r q : LineSent) (x y : List ℕ) → LineSendStep s at m b r x → LineSendStep s at m b q y → (r ≡ q) × (x ≡ y)
    line_send_step_once b r q x y p u =
        let (e, l) = send_step_once _ m b p.inner u.inner x y p.promised u.promised in
        (shown_once p u refl e, l)

    pub line_send_run_once : (bs : List ℕ) (r q : Seen) (x y v w : List ℕ) → LineSendRun s at m bs r x v → LineSendRun s at m bs q y w → (r ≡ q) × (x ≡ y) × (v ≡ w)
    line_send_run_once bs r q x y v w p u =
        let (e, l, h) = send_run_once _ m bs p.inner u.inner x y v w p.promised u.promised in
        (shown_once p u refl e, l, h)

    pub line_receive_step_once : (ms : List ℕ) (b k : ℕ) (r q : LineReceived) (x y v w : List ℕ) → LineReceiveStep s at m ms b k r x v → LineReceiveStep s at m ms b k q y w
        → (r ≡ q) × (x ≡ y) × (v ≡ w)
    line_receive_step_once ms b k r q x y v w p u =
        let (e, l, h) = receive_step_once _ m ms b k p.inner u.inner x y v w p.promised u.promised in
        (shown_once p u refl e, l, h)

    pub line_receive_run_once : (ms bs ks : List ℕ) (r q : Seen) (x y v w c d i j : List ℕ) → LineReceiveRun s at m ms bs ks r x v c i → LineReceiveRun s at m ms bs ks q y w d j
        → (r ≡ q) × (x ≡ y) × (v ≡ w) × (c ≡ d) × (i ≡ j)
    line_receive_run_once ms bs ks r q x y v w c d i j p u =
        let (e, l, h, o, n) = receive_run_once _ m ms bs ks p.inner u.inner x y v w c d i j p.promised u.promised in
        (shown_once p u refl e, l, h, o, n)
