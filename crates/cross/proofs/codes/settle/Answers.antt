-- `codes::settle` meets its contract: each way out is one case of the definition, and the decoder's promise says the rest.
use Rattle.std.proofs.Common.{◌≡◌, ap, ◌∙◌, ℕ, length, replicate, arith, rules}
use Rattle.cross.specs.Codes.{outer_given, outer_refused, settled_late}
use Rattle.cross.proofs.codes.settle.Goals as goal

pub returns-in-Ok : goal.returns-in-Ok
returns-in-Ok c =
    let p = rw (c.outer_code.ensures, c.filled-places.ensures) at c.in-Ok.ensures in
    outer_given _ _ _ _ _ _ p ∙ settled_late _ _ _ _ (omega arith)

pub returns-in-Err : goal.returns-in-Err
returns-in-Err c =
    let p = rw (c.outer_code.ensures, c.filled-places.ensures) at c.in-Err.ensures in
    let size : length c.decode_part.new.part ≡ length c.args.message.now = search rules in
    let zeros = c.fill.ensures.after (λ y e. e) ∙ ap (λ (k : ℕ). replicate {A = ℕ} k 0) (size ∙ c.requires) in
    rw zeros (outer_refused c.in-Err.field-0 c.decode_part.new.part c.decode_part.new.map ∙ outer_given _ _ _ _ _ _ p ∙ settled_late _ _ _ _ (omega arith))
