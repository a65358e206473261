-- `all_below` meets its contract. The invariant: `most` is the largest of the bytes before, so it is below q where all bytes are.
use Rattle.std.specs.Prelude.{List, [], ◌∷◌, ℕ, ◌<◌, length, T, ltb}
use Rattle.std.proofs.Common.{sym, arith, below_more, ltb→lt}
use Rattle.std.proofs.lemmas.Bool.{ltb_from_iff}
use Rattle.algebra.specs.Tests.{below, and_left, passed, below_at, below_all}
use Rattle.buffers.proofs.all_below.Goals as goal
use Rattle.buffers.proofs.all_below.Goals.{then-is_empty-via-then-is_empty, then-is_empty-via-else-is_empty+then-q-gt255}

-- only an empty list has all its bytes below 0
some_below : (q : ℕ) (s : List ℕ) → 0 < length s → T (below q s) → 0 < q
unfolding below
some_below q [] l t = absurd (omega arith)
some_below q (x ∷ s) l t = let h : x < q = ltb→lt x q (and_left (ltb x q) (below q s) t) in omega arith

pub returns-then-is_empty : goal.returns-then-is_empty
returns-then-is_empty c = elim c.then-is_empty.branch [
  | then-is_empty-via-then-is_empty w ↦ sym (passed _ (below_all _ c.args.s.now λ i l. absurd (grind arith)))
  | then-is_empty-via-else-is_empty+then-q-gt255 w ↦ sym (passed _ (below_all _ c.args.s.now λ i l. omega (arith, (c.type_inv.s i).fits)))
]

pub loop-x-init : goal.loop-x-init
loop-x-init c = record { before = λ j h. absurd (omega arith); fits = some_below _ _ (grind arith) }

pub loop-x-preserved : goal.loop-x-preserved
loop-x-preserved c = record {
  before = below_more _ _ (λ j h. omega (arith, c.loop-x.invariant.before j h)) (omega arith);
  fits = λ t. omega (arith, c.loop-x.invariant.fits t, below_at c.args.q c.args.s.now t c.loop-x.x-index (omega (arith, c.loop-x.invariant.fits t)));
}

pub returns : goal.returns
returns c = sym (ltb_from_iff (
  (λ e. omega (arith, c.loop-x.invariant.fits (rw e tt))),
  (λ l. passed _ (below_all _ _ λ j h. omega (arith, c.loop-x.invariant.before j (omega arith)))),
))
