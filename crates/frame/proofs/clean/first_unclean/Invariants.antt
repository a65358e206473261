-- The loop's invariant: the words before w are codewords.
use Rattle.std.proofs.Common.{◌≡◌, ℕ, ◌<◌, false}
use Rattle.frame.specs.Clean.{is_unclean}
use Rattle.frame.proofs.clean.first_unclean.Given as goal

abbrev pub invariant-loop-w : goal.invariant-loop-w
invariant-loop-w l = (i : ℕ) → i < l.w → is_unclean l.f l.slots i ≡ false
