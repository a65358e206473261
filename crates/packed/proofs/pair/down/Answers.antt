-- `packed::pair::down` meets its contract.
use Rattle.packed.specs.Moves.{down}
use borrow.Author.Rules.{rules}
use Rattle.packed.proofs.pair.down.Goals as goal

pub returns : goal.returns
returns c =
    let w = c.wide.ensures in
    rw w.0 (down c.args.p.low _ _ (search rules) (rw w.0 at w.1))
