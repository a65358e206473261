-- `put_figures` meets its contract: each word puts its own three numbers.
use native.Mathlib.Omega.{arith}
use Rattle.link.specs.Replay.Places.{put_word, put_all}
use Rattle.link.proofs.replaying.put_figures.Goals as goal

pub loop-w-preserved : goal.loop-w-preserved
loop-w-preserved c = put_word _ _ _ (omega arith) c.loop-w.invariant

pub returns : goal.returns
returns c = put_all _ _ _ (omega arith) c.loop-w.invariant
