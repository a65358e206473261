-- The cross line's calls for C (document 01, Cross line): what is seen of an answer, what each call promises, and that no call has a second answer.
-- Assumes nothing.
use Rattle.std.specs.Prelude.{◌≡◌, refl, ◌≢◌, true, Ok, Err, List, ℕ, length}
use Rattle.std.proofs.Common.{ap, ◌∙◌}
use Rattle.algebra.specs.Refusal.{if_zero}
use Rattle.interleave.specs.Numbers.{number_of}
use Rattle.word.specs.Answers.{no_figures}
use Rattle.cross.specs.Numbers.{cross_number, taken_number, taken_figures}
use Rattle.cross.specs.Promises.{Ready, FrameAnswer, FreshSender, FreshReceiver, Send, Receive, fresh_sender_once, fresh_receiver_once, send_once, receive_once}
use Rattle.cross.specs.Cross.{due, passed_on, marks_of, FrameOutcome, without_figures, settled, received, size_refusal, send_refusal, fresh_refusal, receive_refusal}
use Rattle.cross.specs.Checks.{fresh_sender_number, fresh_receiver_number, send_number, receive_number, receive_figures}
use Rattle.radio.specs.Shown.{Shows, shown_once}
use Rattle.radio.specs.declared.lines.Ready.{Ready as Seen}
use Rattle.radio.specs.declared.crosses.CrossReceived.{CrossReceived}

-- of a call at a position: where it is refused the position stays, and there are no figures
abbrev pub ready_seen : ℕ → Ready → Seen
ready_seen p (Ok later) = record { answer = 0; position = later }
ready_seen p (Err e) = record { answer = cross_number e; position = p }

abbrev pub received_seen : ℕ → FrameAnswer → CrossReceived
received_seen p (Ok t) = record { answer = taken_number t.figures; figures = taken_figures t.figures; position = t.position }
received_seen p (Err e) = record { answer = cross_number e; figures = no_figures; position = p }

-- ---- the promises, each of the call below with what is seen of its answer

abbrev pub CrossFreshSender : List ℕ → Seen → List ℕ → Type 0
CrossFreshSender m r left = Shows (ready_seen 0) (λ t. FreshSender m t left) r

abbrev pub CrossFreshReceiver : List ℕ → List ℕ → Seen → List ℕ → List ℕ → Type 0
CrossFreshReceiver m ms r left held = Shows (ready_seen 0) (λ t. FreshReceiver m ms t left held) r

abbrev pub CrossSend : ℕ → (m message word : List ℕ) → Seen → (left out : List ℕ) → Type 0
CrossSend at m message word r left out = Shows (ready_seen at) (λ t. Send at m message word t left out) r

abbrev pub CrossReceive : ℕ → (m ms word message map : List ℕ) → CrossReceived → (left held out left_map : List ℕ) → Type 0
CrossReceive at m ms word message map r left held out left_map =
    Shows (received_seen at) (λ t. Receive at m ms word message map t left held out left_map) r

-- ---- the number and the figures that are seen are the paper's

ready_number : (p : ℕ) (t : Ready) → (ready_seen p t).answer ≡ number_of cross_number t
ready_number p (Ok later) = refl
ready_number p (Err e) = refl

pub cross_fresh_sender_number : {m : List ℕ} {r : Seen} {left : List ℕ} → CrossFreshSender m r left → r.answer ≡ size_refusal (length m)
cross_fresh_sender_number p = ap (λ (s : Seen). s.answer) p.same ∙ ready_number 0 p.inner ∙ fresh_sender_number _ p.inner _ p.promised

pub cross_fresh_receiver_number : {m ms : List ℕ} {r : Seen} {left held : List ℕ} → CrossFreshReceiver m ms r left held → r.answer ≡ fresh_refusal (length m) (length ms)
cross_fresh_receiver_number p = ap (λ (s : Seen). s.answer) p.same ∙ ready_number 0 p.inner ∙ fresh_receiver_number _ _ p.inner _ _ p.promised

pub cross_send_number : {at : ℕ} {m message word : List ℕ} {r : Seen} {left out : List ℕ} → CrossSend at m message word r left out
    → r.answer ≡ send_refusal at (length m) (length message) (length word)
cross_send_number {at = at} p = ap (λ (s : Seen). s.answer) p.same ∙ ready_number at p.inner ∙ send_number at _ _ _ p.inner _ _ p.promised

-- a frame that is taken is answered what becomes of it
abbrev told_by : CrossReceived → List ℕ → FrameOutcome
told_by r message = record { number = r.answer; figures = r.figures; message = message }

received_told : (p : ℕ) (t : FrameAnswer) (message : List ℕ) → told_by (received_seen p t) message ≡ received t message
received_told p (Ok t) message = refl
received_told p (Err e) message = refl

pub cross_receive_number : {at : ℕ} {m ms word message map : List ℕ} {r : CrossReceived} {left held out left_map : List ℕ} → CrossReceive at m ms word message map r left held out left_map
    → let k = receive_refusal at (length m) ms (length word) (length message) (length map) in
    told_by r out ≡ if_zero k (settled at (due true at m (passed_on word)) (due true at ms (marks_of word)) message) (without_figures k message)
cross_receive_number {at = at} {out = out} p =
    ap (λ (s : CrossReceived). told_by s out) p.same ∙ received_told at p.inner out ∙ receive_number at _ _ _ _ _ p.inner _ _ _ _ p.promised

-- the figures that are seen are 0 under any answer but 0
pub cross_receive_figures : {at : ℕ} {m ms word message map : List ℕ} {r : CrossReceived} {left held out left_map : List ℕ} → CrossReceive at m ms word message map r left held out left_map
    → r.answer ≢ 0 → r.figures ≡ no_figures
cross_receive_figures {at = at} {r = r} {out = out} p h =
    let told : told_by r out ≡ received p.inner out = ap (λ (s : CrossReceived). told_by s out) p.same ∙ received_told at p.inner out in
    ap (λ (o : FrameOutcome). o.figures) told ∙ receive_figures p.inner out (λ z. h (ap (λ (o : FrameOutcome). o.number) told ∙ z))

-- ---- no second answer: of each call's answer, and of what it leaves in all that was lent

pub cross_fresh_sender_once : (m : List ℕ) (r q : Seen) (x y : List ℕ) → CrossFreshSender m r x → CrossFreshSender m q y → (r ≡ q) × (x ≡ y)
cross_fresh_sender_once m r q x y p u =
    let (e, l) = fresh_sender_once m p.inner u.inner x y p.promised u.promised in
    (shown_once p u refl e, l)

pub cross_fresh_receiver_once : (m ms : List ℕ) (r q : Seen) (x y v w : List ℕ) → CrossFreshReceiver m ms r x v → CrossFreshReceiver m ms q y w → (r ≡ q) × (x ≡ y) × (v ≡ w)
cross_fresh_receiver_once m ms r q x y v w p u =
    let (e, l, h) = fresh_receiver_once m ms p.inner u.inner x y v w p.promised u.promised in
    (shown_once p u refl e, l, h)

module _ (at : ℕ) (m : List ℕ) where
  pub cross_send_once : (message word : List ℕ) (r q : Seen) (x y v w : List ℕ) → CrossSend at m message word r x v → CrossSend at m message word q y w → (r ≡ q) × (x ≡ y) × (v ≡ w)
  cross_send_once message word r q x y v w p u =
      let (e, l, h) = send_once at m message word p.inner u.inner x y v w p.promised u.promised in
      (shown_once p u refl e, l, h)

  pub cross_receive_once : (ms word message map : List ℕ) (r q : CrossReceived) (x y v w c d i j : List ℕ)
      → CrossReceive at m ms word message map r x v c i → CrossReceive at m ms word message map q y w d j → (r ≡ q) × (x ≡ y) × (v ≡ w) × (c ≡ d) × (i ≡ j)
  cross_receive_once ms word message map r q x y v w c d i j p u =
      let (e, l, h, o, n) = receive_once at m ms word message map p.inner u.inner x y v w c d i j p.promised u.promised in
      (shown_once p u refl e, l, h, o, n)
