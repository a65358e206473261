-- `send_words` meets its contract. The loop's invariant: w words are encoded and in their slots.
use Rattle.frame.specs.Sending.{WordsSent}
use Rattle.frame.proofs.sender.send_words.Given as goal

abbrev pub invariant-loop-w : goal.invariant-loop-w
invariant-loop-w l = WordsSent l.f l.payload l.sequence l.w l.message l.word l.slots
