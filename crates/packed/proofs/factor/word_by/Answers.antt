-- `packed::factor::word_by` meets its contract. Each of the eight terms adds one bit of every byte.
use borrow.Author.Rules.{rules}
use Rattle.packed.specs.Factors.{term, word_by_lem}
use Rattle.packed.proofs.factor.word_by.Goals as goal

pub returns : goal.returns
unfolding term
returns c =
    let a = c.args in
    rw (c.bits_by.ensures.0, c.bits_by-2.ensures.0, c.bits_by-3.ensures.0, c.bits_by-4.ensures.0, c.bits_by-5.ensures.0, c.bits_by-6.ensures.0, c.bits_by-7.ensures.0, c.bits_by-8.ensures.0)
    (word_by_lem a.x a.f (search rules))
