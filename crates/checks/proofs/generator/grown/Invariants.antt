-- `checks::generator::grown` meets its contract. The invariant: g has the first j roots, and f are the doubles of the next.
use Rattle.checks.specs.Growth.{Growing}
use Rattle.checks.proofs.generator.grown.Given as goal

abbrev pub invariant-loop-j : goal.invariant-loop-j
invariant-loop-j l = Growing l.m l.b l.j l.g.low l.g.high l.f
