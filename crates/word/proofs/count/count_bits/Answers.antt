-- `count::count_bits` meets its contract. The loop's invariant: `sum` and the bits of what is still to come are those of the two words.
use mathlib.Core.Path.{◌≡◌, sym, ap}
use mathlib.Core.Logic.{inl, inr}
use native.Mathlib.Omega.{arith}
use lib.ListN.{length}
use Rattle.word.specs.Figures.{bits_first, bits_none}
use Rattle.word.proofs.count.count_bits.Goals as goal

pub loop-x-preserved : goal.loop-x-preserved
loop-x-preserved c =
    let (a, b) = c.in-Some.ensures.steps in
    let first = sym (bits_first c.in-Some.x.now c.in-Some.y.now c.next.new.self.a.rest.now c.next.new.self.b.rest.now) in
    record {
      ahead = omega (arith, rw (a, b) at c.loop-x.invariant.ahead, first);
      few = omega (arith, ap length a);
      beside = omega (arith, ap length a, ap length b);
    }

pub returns : goal.returns
returns c =
    let none : length c.loop-x.x-iterator.a.rest.now ≡ 0 = elim c.in-None.ensures.steps [ inl h ↦ h.1.0 | inr h ↦ omega arith ] in
    (omega (arith, bits_none c.loop-x.x-iterator.a.rest.now c.loop-x.x-iterator.b.rest.now none), omega arith)
