-- Calls on a delay line, however the bytes are cut up among them, give what one run over all of them gives.
-- Assumes nothing.
use Rattle.std.specs.Prelude.{◌≡◌, refl, Bool, true, false, List, [], ◌∷◌, ◌++◌, ℕ, T, length}
use Rattle.std.proofs.Common.{sym, ap, ap₂, ◌∙◌, arith}
use Rattle.algebra.specs.Tests.{below, below_at, below_split}
use Rattle.rings.specs.Run.{Ran, run, run_append}
use Rattle.interleave.specs.Setting.{Fine, ReceiverFine, line_run}
use Rattle.interleave.specs.Calls.{Runs, send_runs, send_steps, receive_runs, receive_steps, runs_fine, both_fine}
use Rattle.interleave.specs.Promises.{line_after, line_after_sent, line_after_received, byte_sent, byte_received, mark_received}
use Rattle.interleave.specs.declared.line.Line.{Line}
use Rattle.coverage.specs.Line.{SenderCalls, ReceiverCalls}

-- a call, and those after it
goes_on : (back : Bool) (l : Line) (m given : List ℕ) (number : ℕ) (later : Line) (left gone bs out : List ℕ) → Runs back l m given number later left gone
    → out ≡ (line_run back later left bs).out → gone ++ out ≡ (line_run back l m (given ++ bs)).out
goes_on back l m given number later left gone bs out r e =
    ap₂ ◌++◌ r.bytes (e ∙ ap₂ (λ (x : Line) (y : List ℕ). (line_run back x y bs).out) r.line r.memory)
    ∙ sym (ap (λ (z : Ran). z.out) (run_append _ _ _ _ l.position m given bs))

pub sender_calls : {l : Line} {m bs out : List ℕ} → SenderCalls l m bs out → Fine l (length m) → out ≡ (line_run false l m bs).out
unfolding run
sender_calls SenderCalls.none f = refl
sender_calls {l} {m} (SenderCalls.step {b = b} {r = r} {left = left} {bs = bs} {out = out} p rest) f =
    let s = send_steps l m f b r left p in
    goes_on false l m (b ∷ []) _ (line_after_sent l r) left (byte_sent r ∷ []) bs out s (sender_calls rest (runs_fine false l m _ _ _ left _ f s))
sender_calls {l} {m} (SenderCalls.run {given = given} {r = r} {left = left} {back = back} {bs = bs} {out = out} p rest) f =
    let s = send_runs l m f given r left back p in
    goes_on false l m given _ (line_after l r) left back bs out s (sender_calls rest (runs_fine false l m _ _ _ left _ f s))

pub receiver_calls : {l : Line} {m ms bs ks out flags : List ℕ} → ReceiverCalls l m ms bs ks out flags → ReceiverFine l (length m) ms → T (below 2 ks)
    → (out ≡ (line_run true l m bs).out) × (flags ≡ (line_run true l ms ks).out)
unfolding run
receiver_calls ReceiverCalls.none f h = (refl, refl)
receiver_calls {l} {m} {ms} (ReceiverCalls.step {b = b} {k = k} {r = r} {left = left} {held = held} {bs = bs} {ks = ks} {out = out} {flags = flags} p rest) f h =
    let (one, others) = below_split 2 (k ∷ []) ks h in
    let s = receive_steps l m ms f b k r left held (below_at 2 (k ∷ []) one 0 (omega arith)) p in
    let (x, y) = receiver_calls rest (both_fine l m ms _ _ _ _ left held _ _ f one s) others in
    (goes_on true l m (b ∷ []) _ (line_after_received l r) left (byte_received r ∷ []) bs out s.bytes x, goes_on true l ms (k ∷ []) _ (line_after_received l r) held (mark_received r ∷ []) ks flags s.marks y)
receiver_calls {l} {m} {ms} (ReceiverCalls.run {given = given} {marks = marks} {r = r} {left = left} {held = held} {back = back} {back_marks = back_marks} {bs = bs} {ks = ks} {out = out} {flags = flags} same p rest) f h =
    let (first, others) = below_split 2 marks ks h in
    let s = receive_runs l m ms f given marks r left held back back_marks same first p in
    let (x, y) = receiver_calls rest (both_fine l m ms _ _ _ _ left held _ _ f first s) others in
    (goes_on true l m given _ (line_after l r) left back bs out s.bytes x, goes_on true l ms marks _ (line_after l r) held back_marks ks flags s.marks y)
