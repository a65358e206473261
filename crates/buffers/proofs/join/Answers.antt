-- `join` meets its contract: the first list fills the front of the target, and the second what is behind it.
use Rattle.std.proofs.Common.{◌≡◌, ◌++◌, ap, sym, ◌∙◌, length, take, arith}
use Rattle.std.proofs.Math.Seq.{take-length, take-append-add}
use Rattle.buffers.proofs.join.Goals as goal

pub returns : goal.returns
returns c =
    let f = c.args.first.now in
    let whole : take (length c.split_at_mut-front.result.0.now) f ≡ f = ap (λ n. take n f) (omega arith) ∙ take-length f in
    rw (c.copy.ensures, c.copy-2.ensures, whole) (sym (take-append-add f c.args.second.now _) ∙ ap (λ n. take n (f ++ c.args.second.now)) (omega arith))
