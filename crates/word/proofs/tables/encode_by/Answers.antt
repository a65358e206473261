-- `encode_by` meets its contract: the register's check symbols complete the message.
use mathlib.Core.Path.{◌≡◌, sym}
use lib.ListN.{length}
use Rattle.word.proofs.Encoding.{encoded_front}
use borrow.Author.Rules.{rules}
use Rattle.word.proofs.tables.encode_by.Goals as goal

pub returns : goal.returns
returns c =
    let checks = c.check_symbols_by-checks in
    let given = c.requires.0 in
    let size : length checks.result ≡ 16 = search rules in
    rw (c.join.ensures, given.word_size)
    (sym (encoded_front _ given.setting _ _ given.size size given.small (checks.ensures.each _ _ c.requires.1)))
