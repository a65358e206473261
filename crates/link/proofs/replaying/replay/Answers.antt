-- `replay` meets its contract: a refusal by the checks leaves everything, and the rest are frames that have passed them.
use mathlib.Core.Path.{sym}
use Rattle.link.specs.Replay.Checks.{replay_checked}
use Rattle.link.specs.Replay.Turns.{replay_refused}
use Rattle.link.proofs.replaying.replay.Goals as goal

pub hear_all-requires : goal.hear_all-requires
hear_all-requires c = replay_checked _ _ _ _ _ _ (sym c.in-Ok.ensures)

pub returns-in-Err : goal.returns-in-Err
returns-in-Err c = replay_refused _ _ _ _ _ _ _ _ c.in-Err.ensures
