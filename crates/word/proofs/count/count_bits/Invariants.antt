-- `count::count_bits` meets its contract. The loop's invariant: `sum` and the bits of what is still to come are those of the two words.
use mathlib.Core.Path.{◌≡◌}
use Prim.Native.Nat.{◌+◌, ◌*◌, ◌≤◌}
use lib.ListN.{length}
use Rattle.word.specs.Figures.{bits}
use Rattle.word.proofs.count.count_bits.Given as goal

abbrev pub invariant-loop-x : goal.invariant-loop-x
invariant-loop-x l = record {
  ahead : l.sum + bits l.x-iterator.a.rest.now l.x-iterator.b.rest.now ≡ bits l.received l.word;
  few : l.sum + 8 * length l.x-iterator.a.rest.now ≤ 8 * length l.received;
  beside : length l.x-iterator.b.rest.now ≡ length l.x-iterator.a.rest.now;
}
