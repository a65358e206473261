-- `encode` meets its contract: a refusal leaves the word, and the register's check symbols complete the message.
use mathlib.Core.Path.{◌≡◌, sym}
use native.Mathlib.Omega.{arith}
use borrow.Author.Rules.{rules}
use lib.ListN.{length}
use Rattle.std.proofs.lemmas.Result.{err_from_is_err_and}
use Rattle.word.specs.Setting.{limits}
use Rattle.word.specs.Refusals.{message_checked}
use Rattle.word.specs.Met.{encode_checks, encode_done}
use Rattle.word.proofs.Encoding.{encoded_front}
use Rattle.word.proofs.encode.Goals as goal

pub returns-in_err-check_message : goal.returns-in_err-check_message
returns-in_err-check_message c =
    let p = err_from_is_err_and c.from_residual.result c.from_residual.ensures.1 in
    rw (p.1, p.2) (encode_checks _ _ _ _ c.in_err-check_message.ensures)

pub check_symbols-checks-requires : goal.check_symbols-checks-requires
check_symbols-checks-requires c =
    let limit = limits _ (message_checked _ _ _ (sym c.in_ok-check_message.ensures)).setting in
    (limit.start, limit.high)

pub join-requires : goal.join-requires
join-requires c =
    let given = message_checked _ _ _ (sym c.in_ok-check_message.ensures) in
    let size : length c.check_symbols-checks.result ≡ 16 = search rules in
    omega (arith, (limits _ given.setting).high, given.size, given.word_size)

pub returns : goal.returns
returns c =
    let checks = c.check_symbols-checks in
    let given = message_checked _ _ _ (sym c.in_ok-check_message.ensures) in
    let size : length checks.result ≡ 16 = search rules in
    rw (c.join.ensures, given.word_size)
    (encode_done _ _ _ given _ (encoded_front _ given.setting _ _ given.size size given.small checks.ensures))
