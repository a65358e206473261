-- `checks::syndrome::take_in` meets its contract. The loop's invariant: the symbol is added to the products before `j`.
use lib.Bits.{bit_xor}
use Rattle.algebra.specs.Tests.{at}
use Rattle.algebra.specs.Lists.{Filled}
use Rattle.checks.proofs.syndrome.take_in.Given as goal

abbrev pub invariant-loop-j : goal.invariant-loop-j
invariant-loop-j l = Filled 16 (λ i. bit_xor (at l.products i) l.symbol) l.j l.next
