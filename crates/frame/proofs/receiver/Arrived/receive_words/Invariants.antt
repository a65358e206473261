-- The loop's invariant: w words are accepted, and their messages, maps and figures are written.
use Rattle.frame.specs.Decoding.{Collecting}
use Rattle.frame.proofs.receiver.Arrived.receive_words.Given as goal

abbrev pub invariant-loop-w : goal.invariant-loop-w
invariant-loop-w l = Collecting l.self.f l.self.slots.now l.self.marks.now l.fn.area l.w l.area l.map l.figures
