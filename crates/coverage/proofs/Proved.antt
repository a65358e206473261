-- Demand 3 holds, for two masts and for a replay too, and the maps tell what the channel did.
-- Assumes nothing.
use Rattle.coverage.specs.Coverage.{Demand3, TwoMasts, ReplayComesBack, Beyond, FrameMapTells}
use Rattle.coverage.proofs.FrameBack.{frame_comes_back, frame_map_tells}
use Rattle.coverage.proofs.FramesBack.{frames_come_back, frames_run_come_back, no_two_frames_alike}
use Rattle.coverage.proofs.MastsBack.{two_masts_come_back, two_masts_noted, no_two_masts_alike, refused_takes_nothing}
use Rattle.coverage.proofs.ReplayBack.{replay_comes_back}
use Rattle.coverage.proofs.LineBack.{line_comes_back, no_two_lines_alike}
use Rattle.coverage.proofs.RunsCovered.{frame_run_within, line_run_within, line_runs_within, frame_marked_runs_within, line_marked_runs_within}

pub demand_3 : Demand3
demand_3 = record {
  frame = frame_comes_back;
  frames = frames_come_back;
  line = line_comes_back;
  frame_run = frame_run_within;
  frames_run = frames_run_come_back;
  line_run = line_run_within;
  line_runs = line_runs_within;
  frames_differ = no_two_frames_alike;
  lines_differ = no_two_lines_alike;
}

pub two_masts : TwoMasts
two_masts = record { back = two_masts_come_back; noted_once = two_masts_noted; differ = no_two_masts_alike; refused = refused_takes_nothing }

pub replays_come_back : ReplayComesBack
replays_come_back = replay_comes_back

pub marked_runs : Beyond
marked_runs = record { frame = frame_marked_runs_within; line = line_marked_runs_within }

pub maps_tell : FrameMapTells
maps_tell = frame_map_tells
