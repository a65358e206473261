-- `walk` meets its contract. The invariant: byte i is the next of the branch, `cell` is the cell of its turn, and the steps of the branch below i
-- are taken (proofs/Walking.antt).
use mathlib.Core.Path.{◌∙◌}
use Prim.Native.Nat.{◌+◌, ◌/◌}
use native.Mathlib.Omega.{arith}
use native.Mathlib.Nat.{mod-lt}
use Rattle.rings.specs.Rings.{pos_mul}
use Rattle.rings.proofs.Cells.{ring_bound, ring_code, ring_between, next_code}
use Rattle.rings.proofs.Walking.{walked_none, walking_none, walking_more, walking_all}
use Rattle.rings.proofs.walk.Goals as goal

pub returns-then-k-eq0 : goal.returns-then-k-eq0
returns-then-k-eq0 c = walked_none _ _ _ _ _ _ _ c.if-k-eq0.true

pub overflow_mul-low : goal.overflow_mul-low
overflow_mul-low c = omega (arith, (ring_bound _ _ c.requires.2.units c.requires.2.unit).0)

pub overflow_mul-low-2 : goal.overflow_mul-low-2
overflow_mul-low-2 c = omega (arith, (ring_bound _ _ c.requires.2.units c.requires.2.unit).1)

pub overflow_mul-end : goal.overflow_mul-end
overflow_mul-end c = omega (arith, (ring_bound _ _ c.requires.2.units c.requires.2.unit).2)

pub overflow_add-end : goal.overflow_add-end
overflow_add-end c =
    let b = ring_bound _ _ c.requires.2.units c.requires.2.unit in
    omega (arith, b.1, b.2)

pub overflow_mul-cell : goal.overflow_mul-cell
overflow_mul-cell c = omega (arith, (ring_bound _ _ c.requires.2.units c.requires.2.unit).2)

pub nonzero_rem-cell : goal.nonzero_rem-cell
nonzero_rem-cell c =
    omega (arith, pos_mul c.args.k c.args.unit (omega arith) c.requires.2.some)

pub overflow_add-cell : goal.overflow_add-cell
overflow_add-cell c =
    let b = ring_bound _ _ c.requires.2.units c.requires.2.unit in
    omega (arith, b.1, b.2, mod-lt c.args.q (pos_mul c.args.k c.args.unit (omega arith) c.requires.2.some))

pub loop-i-init : goal.loop-i-init
loop-i-init c = walking_none _ _ _ _ _ _ _ _ c.requires.0 (ring_code _ _ _)

pub bounds-bytes-i : goal.bounds-bytes-i
bounds-bytes-i c = omega (arith, c.loop-i-test.true)

pub bounds-memory-cell : goal.bounds-memory-cell
bounds-memory-cell c =
    omega (arith, c.loop-i.invariant.stands, c.loop-i.invariant.exact, c.requires.2.inside (c.args.q + c.loop-i.i / c.args.branches) (omega arith))

pub bounds-memory-cell-in-loop-i : goal.bounds-memory-cell-in-loop-i
bounds-memory-cell-in-loop-i c =
    omega (arith, c.loop-i.invariant.stands, c.loop-i.invariant.exact, c.requires.2.inside (c.args.q + c.loop-i.i / c.args.branches) (omega arith))

pub bounds-bytes-i-in-loop-i : goal.bounds-bytes-i-in-loop-i
bounds-bytes-i-in-loop-i c = omega (arith, c.loop-i-test.true)

pub next_cell-cell-requires : goal.next_cell-cell-requires
next_cell-cell-requires c =
    let w = ring_between c.args.unit c.args.k (c.args.q + c.loop-i.i / c.args.branches) c.requires.2.some (omega arith) in
    (omega (arith, c.loop-i.invariant.stands, w.0), omega (arith, c.loop-i.invariant.stands, w.1))

pub loop-i-smaller : goal.loop-i-smaller
loop-i-smaller c =
    omega (arith, c.requires.0, c.loop-i-test.true, c.loop-i.invariant.count)

pub loop-i-preserved : goal.loop-i-preserved
loop-i-preserved c =
    walking_more _ _ _ _ _ _ _ _ _ _ _ _ (omega (arith, c.requires.0)) c.if-k-eq0.false
    (omega (arith, c.loop-i-test.true, c.loop-i.invariant.count)) (c.next_cell-cell.ensures ∙ next_code _ _ _) c.loop-i.invariant

pub shape_of-memory : goal.shape_of-memory
shape_of-memory c = c.loop-i.invariant.exact

pub shape_of-bytes : goal.shape_of-bytes
shape_of-bytes c = c.loop-i.invariant.count

pub returns : goal.returns
returns c = walking_all _ _ _ _ _ _ _ _ _ _ _ (omega (arith, c.loop-i-test.false, c.loop-i.invariant.count)) c.loop-i.invariant
