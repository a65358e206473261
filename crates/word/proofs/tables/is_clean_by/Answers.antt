-- `tables::is_clean_by` meets its contract: a word is a codeword exactly where the check symbols of its message stand behind it.
use mathlib.Core.Path.{◌≡◌}
use lib.ListN.{length}
use borrow.Author.Rules.{rules}
use Rattle.word.specs.Looking.{agreed}
use Rattle.word.proofs.tables.is_clean_by.Goals as goal

pub returns : goal.returns
returns c =
    let pre = c.requires in
    let checks = c.check_symbols_of-checks in
    let size : length checks.result ≡ 16 = search rules in
    agreed _ _ _ _ pre.0 _ size (checks.ensures.each _ _ pre.1) _ c.agree.ensures
