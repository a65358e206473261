-- Calls on a delay line that are not refused: each makes a run of the line's rings, and from a fresh line it gives what the step rule says
-- (document 01, Delay line). This speaks of the promises alone. Assumes nothing.
use Rattle.std.specs.Prelude.{◌≡◌, Ok, Bool, T, length}
use Rattle.std.proofs.Math.Path.{refl, sym, ap}
use Rattle.std.proofs.Common.{◌∙◌, arith, lit<}
use Rattle.std.proofs.Math.Bool.{true, false}
use mathlib.Core.List.{List, [], ◌∷◌}
use Prim.Native.Nat.{ℕ, zero, suc, ◌*◌, ◌<◌}
use Rattle.std.proofs.lemmas.List.{length-replicate}
use Rattle.algebra.specs.Tests.{at, below, below_one, below_same}
use Rattle.algebra.specs.Lists.{tabulate}
use Rattle.rings.specs.Rings.{tri, order, tri_size}
use Rattle.rings.specs.Delay.{position, memory, answer, memory_length, kept_below}
use Rattle.rings.specs.Run.{Ran, run, run_fresh, run_below, run_size, same_position}
use Rattle.interleave.specs.Numbers.{line_number, number_of}
use Rattle.interleave.specs.Line.{period, sent, received, reachable}
use Rattle.interleave.specs.Setting.{Setting, Fine, ReceiverFine, memory_size, line_at, moved, line_run, line_done, receiver_done, receive_done, run_fine}
use Rattle.interleave.specs.Promises.{Ready, SentAnswer, ReceivedAnswer, line_after, line_after_sent, line_after_received, byte_sent, byte_received, mark_received, blank, fresh_sender, fresh_receiver, FreshSender, FreshReceiver, send_step, receive_step, SendStep, ReceiveStep, send_run, receive_run, SendRun, ReceiveRun}
use Rattle.interleave.specs.declared.line.Line.{Line}

-- a call was answered 0 and has made the run over bs
pub record Runs (back : Bool) (l : Line) (m bs : List ℕ) (number : ℕ) (later : Line) (left out : List ℕ) : Type 0 where
  pub done : number ≡ 0
  pub line : later ≡ moved l (line_run back l m bs).position
  pub memory : left ≡ (line_run back l m bs).memory
  pub bytes : out ≡ (line_run back l m bs).out

-- ---- a step and a run

module _ (l : Line) (m : List ℕ) (f : Fine l (length m)) where
  pub send_runs : (bs : List ℕ) (r : Ready) (left out : List ℕ) → SendRun l m bs r left out → Runs false l m bs (number_of line_number r) (line_after l r) left out
  unfolding send_run
  send_runs bs r left out p = let e = rw (line_done l (length m) f) at p.outcome in record {
    done = ap (λ (z : Ready × List ℕ × List ℕ). number_of line_number z.0) e;
    line = ap (λ (z : Ready × List ℕ × List ℕ). line_after l z.0) e;
    memory = ap (λ (z : Ready × List ℕ × List ℕ). z.1) e;
    bytes = ap (λ (z : Ready × List ℕ × List ℕ). z.2) e;
  }

  pub send_steps : (b : ℕ) (r : SentAnswer) (left : List ℕ) → SendStep l m b r left → Runs false l m (b ∷ []) (number_of line_number r) (line_after_sent l r) left (byte_sent r ∷ [])
  unfolding send_step run
  send_steps b r left p = let e = rw (line_done l (length m) f) at p.outcome in record {
    done = ap (λ (z : SentAnswer × List ℕ). number_of line_number z.0) e;
    line = ap (λ (z : SentAnswer × List ℕ). line_after_sent l z.0) e;
    memory = ap (λ (z : SentAnswer × List ℕ). z.1) e;
    bytes = ap (λ (z : SentAnswer × List ℕ). byte_sent z.0 ∷ []) e;
  }

-- what a run and a step of the receiver give: the answer, both memories, and of a run its buffers
abbrev RunGiven : Type 0
RunGiven = Ready × List ℕ × List ℕ × List ℕ × List ℕ

abbrev StepGiven : Type 0
StepGiven = ReceivedAnswer × List ℕ × List ℕ

-- the receiver makes two runs at one position: of bytes, and of their marks
pub record RunsBoth (l : Line) (m ms bs ks : List ℕ) (number : ℕ) (later : Line) (left held out flags : List ℕ) : Type 0 where
  pub bytes : Runs true l m bs number later left out
  pub marks : Runs true l ms ks number later held flags

module _ (l : Line) (m ms : List ℕ) (f : ReceiverFine l (length m) ms) where
  both_runs : (bs ks : List ℕ) (number : ℕ) (later : Line) (left held out flags : List ℕ) → length ks ≡ length bs
      → (number ≡ 0) × (later ≡ moved l (line_run true l m bs).position) × (left ≡ (line_run true l m bs).memory) × (held ≡ (line_run true l ms ks).memory)
      × (out ≡ (line_run true l m bs).out) × (flags ≡ (line_run true l ms ks).out) → RunsBoth l m ms bs ks number later left held out flags
  both_runs bs ks number later left held out flags same (n, p, a, b, x, y) = record {
    bytes = record { done = n; line = p; memory = a; bytes = x };
    marks = record { done = n; line = p ∙ ap (moved l) (same_position _ _ _ _ l.position m ms bs ks (sym same)); memory = b; bytes = y };
  }

  pub receive_runs : (bs ks : List ℕ) (r : Ready) (left held out flags : List ℕ) → length ks ≡ length bs → T (below 2 ks)
      → ReceiveRun l m ms bs ks r left held out flags → RunsBoth l m ms bs ks (number_of line_number r) (line_after l r) left held out flags
  unfolding receive_run
  receive_runs bs ks r left held out flags same small p =
      let e = rw (receive_done l (length m) ms (length bs) ks (record { receiver = f; each = same; small = small })) at p.outcome in
      both_runs bs ks (number_of line_number r) (line_after l r) left held out flags same
      (ap (λ (z : RunGiven). number_of line_number z.0) e, ap (λ (z : RunGiven). line_after l z.0) e, ap (λ (z : RunGiven). z.1) e, ap (λ (z : RunGiven). z.2) e, ap (λ (z : RunGiven). z.3) e, ap (λ (z : RunGiven). z.4) e)

  pub receive_steps : (b k : ℕ) (r : ReceivedAnswer) (left held : List ℕ) → k < 2
      → ReceiveStep l m ms b k r left held → RunsBoth l m ms (b ∷ []) (k ∷ []) (number_of line_number r) (line_after_received l r) left held (byte_received r ∷ []) (mark_received r ∷ [])
  unfolding receive_step run
  receive_steps b k r left held h p =
      let e = rw (receive_done l (length m) ms 1 (k ∷ []) (record { receiver = f; each = refl; small = below_one 2 k h })) at p.outcome in
      both_runs (b ∷ []) (k ∷ []) (number_of line_number r) (line_after_received l r) left held (byte_received r ∷ []) (mark_received r ∷ []) refl
      (ap (λ (z : StepGiven). number_of line_number z.0) e, ap (λ (z : StepGiven). line_after_received l z.0) e, ap (λ (z : StepGiven). z.1) e, ap (λ (z : StepGiven). z.2) e, ap (λ (z : StepGiven). byte_received z.0 ∷ []) e, ap (λ (z : StepGiven). mark_received z.0 ∷ []) e)

-- a line stays fine from call to call
pub runs_fine : (back : Bool) (l : Line) (m bs : List ℕ) (number : ℕ) (later : Line) (left out : List ℕ) → Fine l (length m) → Runs back l m bs number later left out
    → Fine later (length left)
runs_fine back l m bs number later left out f r = rw (r.line, r.memory) (run_fine back l m bs f)

pub both_fine : (l : Line) (m ms bs ks : List ℕ) (number : ℕ) (later : Line) (left held out flags : List ℕ) → ReceiverFine l (length m) ms → T (below 2 ks)
    → RunsBoth l m ms bs ks number later left held out flags → ReceiverFine later (length left) held
both_fine l m ms bs ks number later left held out flags f small r = record {
  line = runs_fine true l m bs number later left out f.line r.bytes;
  exact = rw (r.marks.memory, r.bytes.memory) (run_size _ _ _ _ l.position ms ks ∙ f.exact ∙ sym (run_size _ _ _ _ l.position m bs));
  fit = rw r.marks.memory (run_below _ _ _ _ 2 l.position ms ks f.fit small);
}

-- ---- a fresh line

module _ (I M n : ℕ) (t : Setting I M n) where
  fresh_line : (size : ℕ) → size ≡ memory_size I M → Fine (line_at I M n 0) size
  fresh_line size e =
      let some : 0 < period I M = omega (arith, reachable I M t.branches.0 t.branches.1 t.unit.0 0) in
      record { allowed = record { setting = t; position = some }; exact = e }

  -- memories of its length are not refused, and made blank
  pub sender_fresh : (m : List ℕ) (r : Ready) (left : List ℕ) → length m ≡ memory_size I M → FreshSender I M n m r left → (r ≡ Ok (line_at I M n 0)) × (left ≡ blank I M 0)
  unfolding fresh_sender
  sender_fresh m r left e p =
      let g = rw (line_done _ _ (fresh_line (length m) e)) at p.outcome in
      (ap (λ (z : Ready × List ℕ). z.0) g, ap (λ (z : Ready × List ℕ). z.1) g)

  pub receiver_fresh : (m ms : List ℕ) (r : Ready) (left held : List ℕ) → length m ≡ memory_size I M → length ms ≡ memory_size I M → FreshReceiver I M n m ms r left held
      → (r ≡ Ok (line_at I M n 0)) × (left ≡ blank I M 0) × (held ≡ blank I M 1)
  unfolding fresh_receiver
  receiver_fresh m ms r left held e f p =
      let g = rw (receiver_done _ _ _ (fresh_line (length m) e) (f ∙ sym e)) at p.outcome in
      (ap (λ (z : Ready × List ℕ × List ℕ). z.0) g, ap (λ (z : Ready × List ℕ × List ℕ). z.1) g, ap (λ (z : Ready × List ℕ × List ℕ). z.2) g)

  -- so that calls can follow
  pub sender_starts : Fine (line_at I M n 0) (length (blank I M 0))
  sender_starts = fresh_line _ (length-replicate (memory_size I M) 0)

  pub receiver_starts : ReceiverFine (line_at I M n 0) (length (blank I M 0)) (blank I M 1)
  receiver_starts = record {
    line = sender_starts;
    exact = length-replicate (memory_size I M) 1 ∙ sym (length-replicate (memory_size I M) 0);
    fit = below_same 2 (memory_size I M) 1 (lit< tt);
  }

  -- Fresh, then a run over any bytes: what leaves at each step is what the step rule says.
  pub fresh_run : (back : Bool) (d : ℕ) (bs : List ℕ) → (line_run back (line_at I M n 0) (blank I M d) bs).out ≡ tabulate (length bs) (answer (order back I) I M (period I M) d (at bs))
  fresh_run back d bs = rw (tri_size I M) (ap (λ (z : Ran). z.out) (run_fresh (order back I) I M (period I M) d bs))

  -- ---- a fresh line, and the calls one after the other

  -- the line after s steps, and a memory fresh with d and fed f
  abbrev line_of : ℕ → Line
  line_of s = line_at I M n (position (period I M) s)

  abbrev held : Bool → ℕ → (ℕ → ℕ) → ℕ → List ℕ
  held back d f s = memory (order back I) I M (period I M) d f s

  fine_after : (back : Bool) (d : ℕ) (f : ℕ → ℕ) (s : ℕ) → Fine (line_of s) (length (held back d f s))
  fine_after back d f s = record {
    allowed = record { setting = t; position = reachable I M t.branches.0 t.branches.1 t.unit.0 s };
    exact = memory_length (order back I) I M (period I M) d f s ∙ sym (tri_size I M);
  }

  -- The s-th call of `send_step` from a fresh line is answered 0, gives the byte of the step rule, and leaves line and memory as they are after s + 1 steps.
  pub sends : (f : ℕ → ℕ) (s : ℕ) (r : SentAnswer) (left : List ℕ) → SendStep (line_of s) (held false 0 f s) (f s) r left
      → (r ≡ Ok (record { byte = sent I M f s; line = line_of (suc s) })) × (left ≡ held false 0 f (suc s))
  unfolding send_step position memory answer
  sends f s r left p =
      let e = rw (line_done _ _ (fine_after false 0 f s)) at p.outcome in
      (ap (λ (z : SentAnswer × List ℕ). z.0) e, ap (λ (z : SentAnswer × List ℕ). z.1) e)

  marks_after : (h : ℕ → ℕ) → ((s : ℕ) → h s < 2) → (s : ℕ) → T (below 2 (held true 1 h s))
  unfolding memory
  marks_after h small zero = below_same 2 (tri I * M) 1 (lit< tt)
  marks_after h small (suc s) = kept_below (order true I) I M 2 (held true 1 h s) (position (period I M) s) (h s) (marks_after h small s) (small s)

  -- The s-th call of `receive_step` gives byte and mark of the step rule, fed bytes g and marks h.
  pub receives : (g h : ℕ → ℕ) → ((s : ℕ) → h s < 2) → (s : ℕ) (r : ReceivedAnswer) (left left_marks : List ℕ)
      → ReceiveStep (line_of s) (held true 0 g s) (held true 1 h s) (g s) (h s) r left left_marks
      → (r ≡ Ok (record { byte = received I M 0 g s; mark = received I M 1 h s; line = line_of (suc s) })) × (left ≡ held true 0 g (suc s)) × (left_marks ≡ held true 1 h (suc s))
  unfolding receive_step position memory answer
  receives g h small s r left left_marks p =
      let f : ReceiverFine (line_of s) (length (held true 0 g s)) (held true 1 h s) = record {
        line = fine_after true 0 g s;
        exact = memory_length (order true I) I M (period I M) 1 h s ∙ sym (memory_length (order true I) I M (period I M) 0 g s);
        fit = marks_after h small s;
      } in
      let e = rw (receive_done _ _ _ 1 _ (record { receiver = f; each = refl; small = below_one 2 (h s) (small s) })) at p.outcome in
      (ap (λ (z : StepGiven). z.0) e, ap (λ (z : StepGiven). z.1) e, ap (λ (z : StepGiven). z.2) e)
