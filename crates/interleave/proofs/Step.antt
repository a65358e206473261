-- A step is a run over one byte: what the run's promise says of it is the step's.
-- Assumes nothing.
use Rattle.std.specs.Prelude.{Ok, Err, List, [], ◌∷◌, ℕ, length}
use Rattle.std.proofs.Common.{ap, ◌∙◌}
use Rattle.algebra.specs.Tests.{at}
use Rattle.rings.specs.Run.{run}
use Rattle.interleave.specs.Numbers.{through}
use Rattle.interleave.specs.Setting.{line_refusal, receive_refusal}
use Rattle.interleave.specs.Promises.{Ready, SentAnswer, ReceivedAnswer, send_step, receive_step, send_run, receive_run, SendStep, ReceiveStep, SendRun, ReceiveRun}
use Rattle.interleave.specs.declared.line.Line.{Line}

-- the answer of a step, by that of the run and by what the run leaves of the byte and of its mark
abbrev pub sent_by : Ready → ℕ → SentAnswer
sent_by (Ok l) b = Ok (record { byte = b; line = l })
sent_by (Err e) b = Err e

abbrev pub received_by : Ready → ℕ → ℕ → ReceivedAnswer
received_by (Ok l) b k = Ok (record { byte = b; mark = k; line = l })
received_by (Err e) b k = Err e

module _ (l : Line) (m : List ℕ) (b : ℕ) (r : Ready) (left one : List ℕ) where
  pub send_stepped : SendRun l m (b ∷ []) r left one → SendStep l m b (sent_by r (at one 0)) left
  unfolding send_run send_step run
  send_stepped p =
      let f : Ready × List ℕ × List ℕ → SentAnswer × List ℕ = λ z. (sent_by z.0 (at z.2 0), z.1) in
      record { outcome = ap f p.outcome ∙ through f (line_refusal l (length m)) _ _ }

abbrev Left : Type 0
Left = Ready × List ℕ × List ℕ × List ℕ × List ℕ

module _ (l : Line) (m ms : List ℕ) (b k : ℕ) (r : Ready) (left held one flag : List ℕ) where
  pub receive_stepped : ReceiveRun l m ms (b ∷ []) (k ∷ []) r left held one flag → ReceiveStep l m ms b k (received_by r (at one 0) (at flag 0)) left held
  unfolding receive_run receive_step run
  receive_stepped p =
      let f : Left → ReceivedAnswer × List ℕ × List ℕ = λ z. (received_by z.0 (at z.3 0) (at z.4 0), z.1, z.2) in
      record { outcome = ap f p.outcome ∙ through f (receive_refusal l (length m) ms 1 (k ∷ [])) _ _ }
