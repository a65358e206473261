-- The loop of `worked::reach::struck`: the word keeps its 255 symbols.
-- Assumes nothing.
use Rattle.std.proofs.Common.{◌≡◌, length}
use Rattle.worked.proofs.reach.struck.Given as goal

abbrev pub invariant-loop-i : goal.invariant-loop-i
invariant-loop-i l = 255 ≡ length l.symbols
