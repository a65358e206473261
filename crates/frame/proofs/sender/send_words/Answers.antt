-- `send_words` meets its contract. The loop's invariant: w words are encoded and in their slots.
use native.Mathlib.Omega.{arith}
use Rattle.frame.specs.Sending.{sent_checked, sent_more, sent_all}
use Rattle.frame.proofs.sender.send_words.Goals as goal

pub encode_by-requires : goal.encode_by-requires
encode_by-requires c =
    let given = c.requires.0.checked in
    let copied = rw (c.message-k.ensures, c.area-size.ensures) at c.fill_message.ensures in
    rw c.words.ensures
    (sent_checked _ _ _ _ given.limits given.fits c.loop-w-test.true _ _ _ c.loop-w.invariant _ copied, c.requires.1)

pub loop-w-preserved : goal.loop-w-preserved
loop-w-preserved c =
    let given = c.requires.0.checked in
    let copied = rw (c.message-k.ensures, c.area-size.ensures) at c.fill_message.ensures in
    let told = rw c.words.ensures at c.encode_by.ensures in
    sent_more _ _ _ _ given.limits given.fits c.loop-w-test.true _ _ _ c.loop-w.invariant _ copied _ (omega (arith, c.loop-w.invariant.word_size)) told _ c.put_word.ensures

pub returns : goal.returns
returns c = sent_all _ _ _ _ c.requires.0.checked.limits (omega arith) _ _ _ c.loop-w.invariant
