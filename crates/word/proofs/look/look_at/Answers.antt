-- `look_at` meets its contract: an allowed setting has check symbols.
use Prim.Native.Nat.{◌≤◌}
use borrow.Author.Rules.{rules}
use Rattle.word.specs.Setting.{limits}
use Rattle.word.proofs.look.look_at.Goals as goal

pub look_with-requires-clause-callable : goal.look_with-requires-clause-callable
look_with-requires-clause-callable c =
    let limit = limits _ c.requires.setting in
    let few : (c.args.s.b ≤ 1) × (c.args.s.r ≤ 16) = (limit.start, limit.high) in
    search rules
