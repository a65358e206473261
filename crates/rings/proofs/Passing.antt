-- Half way through a run: what has left stands before place i of the buffer, and the steps still to come give the rest of the whole.
-- Assumes nothing.
use mathlib.Core.Path.{◌≡◌, ◌∙◌}
use mathlib.Core.List.{List, append_assoc, append-nil}
use Prim.Native.Nat.{ℕ, suc, ◌+◌, ◌%◌, ◌≤◌, ◌<◌}
use native.Mathlib.Nat.{mod-lt}
use native.Mathlib.Numerals.{add-one}
use native.Mathlib.Omega.{arith}
use lib.ListN.{length, get_or, take, drop, set, length-set, drop_of_length-le}
use lib.Seq.{drop-cons, take-suc-set, drop-set-lt, take_all}
use Rattle.rings.specs.Delay.{line_out, line_kept, kept_length}
use Rattle.rings.specs.Run.{Ran, ran, goes_on, run_none, run_cons}

module _ (units : ℕ → ℕ) (I M P : ℕ) where
  -- p, m and bs are position, memory and buffer after i steps of the whole run
  pub record Passing (whole : Ran) (size many i p : ℕ) (m bs : List ℕ) : Type 0 where
    pub place : p < P
    pub exact : length m ≡ size
    pub count : length bs ≡ many
    pub rest : goes_on units I M P (take i bs) p m (drop i bs) ≡ whole

  pub passing_more : (whole : Ran) (size many i p : ℕ) (m bs : List ℕ) (out : ℕ) (left : List ℕ) → i < many
      → out ≡ line_out units I M m p (get_or bs i 0) → left ≡ line_kept units I M m p (get_or bs i 0)
      → Passing whole size many i p m bs → Passing whole size many (i + 1) ((p + 1) % P) left (set bs i out)
  passing_more whole size many i p m bs out left h o k s =
      let b : ℕ = get_or bs i 0 in
      let u : i < length bs = omega (arith, s.count) in
      record {
        place = mod-lt (p + 1) (omega (arith, s.place));
        exact = rw k (kept_length units I M m p b ∙ s.exact);
        count = length-set bs i out ∙ s.count;
        rest = rw (add-one, take-suc-set bs i out u, drop-set-lt (suc i) bs i out (omega arith), append_assoc, o, k)
            (rw (drop-cons bs i 0 u, run_cons units I M P p m b (drop (suc i) bs)) at s.rest);
      }

  pub passing_end : (whole : Ran) (size many i p : ℕ) (m bs : List ℕ) → many ≤ i → Passing whole size many i p m bs → ran bs m p ≡ whole
  passing_end whole size many i p m bs h s =
      let u : length bs ≤ i = omega (arith, s.count) in
      rw (drop_of_length-le bs u, take_all i bs u, run_none units I M P p m, append-nil) at s.rest
