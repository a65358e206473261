-- `packed::pair::double_word` meets its contract. The masked word has bytes below 128 (below 4 at m = 3), so that no product carries from byte to byte.
use Rattle.packed.specs.Doubles.{doubled_3, doubled_8}
use Rattle.packed.proofs.pair.double_word.Goals as goal

pub returns-then-m-eq3-clause-each : goal.returns-then-m-eq3-clause-each
returns-then-m-eq3-clause-each c = doubled_3 _ _ c.if-m-eq3.true

pub returns-clause-each : goal.returns-clause-each
returns-clause-each c = doubled_8 _ _ c.if-m-eq3.false
