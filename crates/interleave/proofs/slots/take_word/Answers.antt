-- `slots::take_word` meets its contract: the front of the array is what `copy_word` left there.
use Rattle.std.proofs.Common.{◌≡◌, ap, ◌∙◌, List, ℕ, length, arith}
use Rattle.std.proofs.lemmas.List.{length-replicate}
use Rattle.interleave.specs.Slots.{taken}
use Rattle.interleave.proofs.slots.take_word.Goals as goal

pub returns : goal.returns
returns c =
    let space = c.filled-word in
    let size : length space.result ≡ 255 = ap (λ (l : List ℕ). length l) space.ensures ∙ length-replicate {A = ℕ} 255 0 in
    taken _ _ _ _ space.result _ (let s = c.requires.short in omega arith) c.copy_word.ensures size
