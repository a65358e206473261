-- `packed::factor::factor_of` meets its contract. The invariant: the first k products stand.
use Rattle.packed.specs.Factors.{Factoring}
use Rattle.packed.proofs.factor.factor_of.Given as goal

abbrev pub invariant-loop-k : goal.invariant-loop-k
invariant-loop-k l = Factoring l.m l.x l.k l.f
