-- Calls on the interleavers with a setting that stands: a block goes to its slots, and a run from a fresh line is what the step rule says.
-- Assumes nothing.
use Rattle.std.specs.Prelude.{◌≡◌, true, false, List, ℕ, ◌*◌, T, length, get_or}
use Rattle.std.proofs.Common.{ap, ◌∙◌}
use Rattle.algebra.specs.Tests.{below}
use Rattle.algebra.specs.Lists.{tabulate}
use Rattle.interleave.specs.Block.{Given, BlockSetting, spread, spreading, block_done}
use Rattle.interleave.specs.Line.{sent, received}
use Rattle.interleave.specs.Setting.{Setting}
use Rattle.interleave.specs.Calls.{send_runs, receive_runs, sender_fresh, receiver_fresh, sender_starts, receiver_starts, fresh_run}
use Rattle.worked.specs.Gives.{SpreadsTo, SendsTo, ReceivesTo}

pub spreads : (J n : ℕ) (words : List ℕ) → BlockSetting J n → length words ≡ J * n → SpreadsTo J n words (spread J n words)
unfolding spreading
spreads J n words fits e held left r k p =
    let g = rw (block_done J n (length words) (length held) (record { setting = fits; from = e; to = k })) at p.outcome in
    (ap (λ (z : Given). z.0) g, ap (λ (z : Given). z.1) g)

module _ (I M n : ℕ) (t : Setting I M n) where
  pub sends : (bytes : List ℕ) → SendsTo I M n bytes (tabulate (length bytes) (sent I M (λ v. get_or bytes v 0)))
  sends bytes held fresh kept left r s e p q =
      let (line, clear) = sender_fresh I M n t held r fresh e p in
      let run = send_runs _ _ (sender_starts I M n t) bytes s kept left (rw (line, clear) at q) in
      (run.done, run.bytes ∙ fresh_run I M n t false 0 bytes)

  pub receives : (bytes marks : List ℕ) → length marks ≡ length bytes → T (below 2 marks)
      → ReceivesTo I M n bytes marks (tabulate (length bytes) (received I M 0 (λ v. get_or bytes v 0))) (tabulate (length bytes) (received I M 1 (λ v. get_or marks v 0)))
  receives bytes marks same small held held_marks fresh fresh_marks kept kept_marks left left_marks r s e g p q =
      let (line, clear, clear_marks) = receiver_fresh I M n t held held_marks r fresh fresh_marks e g p in
      let run = receive_runs _ _ _ (receiver_starts I M n t) bytes marks s kept kept_marks left left_marks same small (rw (line, clear, clear_marks) at q) in
      (run.bytes.done, run.bytes.bytes ∙ fresh_run I M n t true 0 bytes, run.marks.bytes ∙ (rw same at (fresh_run I M n t true 1 marks)))
