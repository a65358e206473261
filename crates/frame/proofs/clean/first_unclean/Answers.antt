-- `clean::first_unclean` meets its contract. The loop's invariant: the words before w are codewords.
use native.Mathlib.Omega.{arith}
use borrow.Author.Count.{below_more}
use Rattle.frame.specs.Asking.{word_told, word_stands, unclean_here, unclean_nowhere}
use Rattle.frame.proofs.clean.first_unclean.Goals as goal

pub is_clean_by-requires : goal.is_clean_by-requires
is_clean_by-requires c =
    rw c.words.ensures (word_stands _ _ _ c.requires.0 (λ i. (c.type_inv.slots i).fits) (omega arith), c.requires.1)

pub loop-w-preserved : goal.loop-w-preserved
loop-w-preserved c =
    let told = rw c.words.ensures at c.is_clean_by.ensures in
    below_more _ _ c.loop-w.invariant (word_told _ _ _ _ _ told c.if-not-is_clean_by.false)

pub returns-then-not-is_clean_by : goal.returns-then-not-is_clean_by
returns-then-not-is_clean_by c =
    let told = rw c.words.ensures at c.is_clean_by.ensures in
    unclean_here _ _ _ c.loop-w-test.true c.loop-w.invariant (word_told _ _ _ _ _ told c.if-not-is_clean_by.true)

pub returns : goal.returns
returns c = unclean_nowhere _ _ λ i l. c.loop-w.invariant i (omega arith)
