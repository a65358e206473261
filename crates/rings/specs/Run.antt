-- A run of steps of one line of rings, over a list of bytes or of marks (document 01, Delay line): the sender's run is one, the receiver's two,
-- of bytes and of marks.
-- Assumes nothing.
use Rattle.std.specs.Prelude.{◌≡◌, T, ltb, length, replicate}
use Rattle.std.proofs.Math.Path.{refl, ap}
use Rattle.std.proofs.Common.{sym, ◌∙◌, add-suc, suc-add, mod-lt}
use mathlib.Core.List.{List, [], ◌∷◌, ◌++◌}
use Prim.Native.Nat.{ℕ, zero, suc, ◌+◌, ◌*◌, ◌%◌, ◌≤◌, ◌<◌, ◌∣◌}
use Rattle.std.proofs.Math.Nat.{add-zero, zero-add}
use native.Mathlib.Omega.{arith}
use Rattle.std.proofs.Math.Dec.{ltb→lt}
use Rattle.algebra.specs.Tests.{at, below, and_left, and_right}
use Rattle.algebra.specs.Lists.{tabulate, tabulated}
use Rattle.rings.specs.Rings.{tri, RingFits, ring_end}
use Rattle.rings.specs.Delay.{line_out, line_kept, position, memory, answer, kept_length, kept_below}

-- what `run` asks of its numbers: they are small, the position is one of the P, the memory is as long as all its rings, and every ring comes
-- round in P steps
pub record RunFits (I M P p size : ℕ) : Type 0 where
  pub branches : (0 < I) × (I ≤ 32)
  pub unit : (0 < M) × (M ≤ 128)
  pub place : p < P
  pub exact : size ≡ tri I * M
  pub round : (k : ℕ) → 0 < k → k < I → k * M * I ∣ P

-- what a run gives: the bytes that left, the memory, and the position after it
pub record Ran : Type 0 where
  pub out : List ℕ
  pub memory : List ℕ
  pub position : ℕ

abbrev pub ran : List ℕ → List ℕ → ℕ → Ran
ran out m p = record { out = out; memory = m; position = p }

-- the ring of any branch fits the memory
pub ring_fits : (I M P p size k : ℕ) → RunFits I M P p size → k < I → RingFits M k size
ring_fits I M P p size k f h = record {
  some = f.unit.0;
  unit = f.unit.1;
  units = omega (arith, f.branches.1);
  inside = λ q u. omega (arith, f.exact, ring_end M f.unit.0 k I q u h);
}

shifted : (f : ℕ → ℕ) (s k : ℕ) → tabulate (suc k) (λ i. f (s + i)) ≡ f s ∷ tabulate k (λ i. f (suc s + i))
unfolding tabulate
shifted f s k = simp (add-zero, add-suc, suc-add)

module _ (units : ℕ → ℕ) (I M P : ℕ) where
  -- from position p and memory m, a step for each byte
  unfoldable pub run : ℕ → List ℕ → List ℕ → Ran
  run p m [] = ran [] m p
  run p m (b ∷ bs) =
      let r = run ((p + 1) % P) (line_kept units I M m p b) bs in
      ran (line_out units I M m p b ∷ r.out) r.memory r.position

  -- what a run goes on to after some bytes have left
  abbrev pub goes_on : List ℕ → ℕ → List ℕ → List ℕ → Ran
  goes_on done p m bs = let r = run p m bs in ran (done ++ r.out) r.memory r.position

  -- ---- laws

  pub run_none : (p : ℕ) (m : List ℕ) → run p m [] ≡ ran [] m p
  unfolding run
  run_none p m = refl

  pub run_cons : (p : ℕ) (m : List ℕ) (b : ℕ) (bs : List ℕ) → run p m (b ∷ bs) ≡ goes_on (line_out units I M m p b ∷ []) ((p + 1) % P) (line_kept units I M m p b) bs
  unfolding run
  run_cons p m b bs = refl

  -- however the bytes are cut up, they come to one run
  pub run_append : (p : ℕ) (m bs rest : List ℕ) → let r = run p m bs in run p m (bs ++ rest) ≡ goes_on r.out r.position r.memory rest
  unfolding run
  run_append p m [] rest = refl
  run_append p m (b ∷ bs) rest = rw (run_append ((p + 1) % P) (line_kept units I M m p b) bs rest)

  pub run_size : (p : ℕ) (m bs : List ℕ) → length (run p m bs).memory ≡ length m
  unfolding run
  run_size p m [] = refl
  run_size p m (b ∷ bs) = run_size ((p + 1) % P) (line_kept units I M m p b) bs ∙ kept_length units I M m p b

  -- the position stays below the period, and depends on the number of steps alone
  pub run_position : (p : ℕ) (m bs : List ℕ) → p < P → (run p m bs).position < P
  unfolding run
  run_position p m [] h = h
  run_position p m (b ∷ bs) h = run_position ((p + 1) % P) (line_kept units I M m p b) bs (mod-lt (p + 1) (omega arith))

  pub same_position : (p : ℕ) (m n bs cs : List ℕ) → length bs ≡ length cs → (run p m bs).position ≡ (run p n cs).position
  unfolding run
  same_position p m n [] [] e = refl
  same_position p m n [] (c ∷ cs) e = absurd (omega arith)
  same_position p m n (b ∷ bs) [] e = absurd (omega arith)
  same_position p m n (b ∷ bs) (c ∷ cs) e = same_position ((p + 1) % P) (line_kept units I M m p b) (line_kept units I M n p c) bs cs (omega arith)

  -- marks stay marks
  pub run_below : (q p : ℕ) (m bs : List ℕ) → T (below q m) → T (below q bs) → T (below q (run p m bs).memory)
  unfolding run below
  run_below q p m [] t u = t
  run_below q p m (b ∷ bs) t u =
      let h : b < q = ltb→lt b q (and_left (ltb b q) (below q bs) u) in
      run_below q ((p + 1) % P) (line_kept units I M m p b) bs (kept_below units I M q m p b t h) (and_right (ltb b q) (below q bs) u)

  module _ (d : ℕ) (f : ℕ → ℕ) where
    -- memory, answers and position of the step rule, from step s on
    abbrev held : ℕ → List ℕ
    held s = memory units I M P d f s

    abbrev given : ℕ → ℕ → List ℕ
    given s k = tabulate k (λ i. answer units I M P d f (s + i))

    run_next : (s k : ℕ) (bs : List ℕ) → run (position P (suc s)) (held (suc s)) bs ≡ ran (given (suc s) k) (held (suc s + k)) (position P (suc s + k))
        → run (position P s) (held s) (f s ∷ bs) ≡ ran (given s (suc k)) (held (s + suc k)) (position P (s + suc k))
    unfolding position memory answer
    run_next s k bs e =
        let later : suc s + k ≡ s + suc k = omega arith in
        run_cons (position P s) (held s) (f s) bs
        ∙ ap (λ (z : Ran). ran (answer units I M P d f s ∷ z.out) z.memory z.position) e
        ∙ ap (λ (N : ℕ). ran (answer units I M P d f s ∷ given (suc s) k) (held N) (position P N)) later
        ∙ ap (λ (z : List ℕ). ran z (held (s + suc k)) (position P (s + suc k))) (sym (shifted (answer units I M P d f) s k))

    -- From step s on: k steps give the answers s to s + k - 1 of the rule, and leave memory and position as they are after s + k steps.
    pub run_from : (k s : ℕ) → run (position P s) (held s) (tabulate k (λ i. f (s + i))) ≡ ran (given s k) (held (s + k)) (position P (s + k))
    unfolding tabulate
    run_from zero s = rw add-zero (run_none (position P s) (held s))
    run_from (suc k) s = ap (run (position P s) (held s)) (shifted f s k) ∙ run_next s k (tabulate k (λ i. f (suc s + i))) (run_from k (suc s))

  -- Fresh, then a run: what leaves is what the step rule says.
  pub run_fresh : (d : ℕ) (bs : List ℕ) → run 0 (replicate (tri I * M) d) bs
      ≡ ran (tabulate (length bs) (answer units I M P d (at bs))) (memory units I M P d (at bs) (length bs)) (position P (length bs))
  unfolding position memory
  run_fresh d bs = ap (run 0 (replicate (tri I * M) d)) (tabulated bs (length bs) (at bs) 0 refl (λ i h. refl)) ∙ (simp zero-add at (run_from d (at bs) (length bs) 0))
