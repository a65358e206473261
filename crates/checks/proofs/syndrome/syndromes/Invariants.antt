-- `checks::syndrome::syndromes` meets its contract. The loop's invariant: what is left of the word takes each lane to its value.
use Rattle.checks.specs.Syndromes.{Partial}
use Rattle.checks.proofs.syndrome.syndromes.Given as goal

abbrev pub invariant-loop-symbol : goal.invariant-loop-symbol
invariant-loop-symbol l = Partial l.m l.b l.word l.symbol-index l.values
