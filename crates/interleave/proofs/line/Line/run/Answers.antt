-- `Line::run` meets its contract: it is what `run` promises of as many positions as the line has.
use Rattle.interleave.specs.Setting.{run_fits}
use Rattle.interleave.proofs.line.Line.run.Goals as goal

pub run-requires : goal.run-requires
run-requires c = rw c.period.ensures (run_fits _ _ c.requires)
