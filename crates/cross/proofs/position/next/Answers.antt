-- `position::next` meets its contract: the position after the last is the first of those that come again.
use mathlib.Core.Path.{sym}
use native.Mathlib.Omega.{arith}
use Rattle.algebra.specs.Sets.{put_yes, put_no}
use Rattle.cross.specs.Cross.{after}
use Rattle.cross.proofs.position.next.Goals as goal

pub returns-then-later-once : goal.returns-then-later-once
unfolding after
returns-then-later-once c = sym (put_yes _ _ _ (omega arith))

pub returns : goal.returns
unfolding after
returns c = sym (put_no _ _ _ λ e. omega arith)
