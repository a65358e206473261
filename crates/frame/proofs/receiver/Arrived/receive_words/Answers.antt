-- `receive_words` meets its contract. The loop's invariant: w words are accepted, and their messages, maps and figures are written.
use mathlib.Core.Path.{◌≡◌, ◌∙◌}
use native.Mathlib.Omega.{arith}
use Rattle.std.proofs.Common.{rules, length, replicate, length-take, length-drop}
use Rattle.word.specs.Setting.{message_size}
use Rattle.frame.specs.Frame.{word_setting}
use Rattle.frame.specs.Decoding.{collecting_none, fits, collecting_more, first_lost, all_found}
use Rattle.frame.proofs.receiver.Arrived.receive_words.Goals as goal

pub loop-w-init : goal.loop-w-init
loop-w-init c =
    let cleared : c.fill.new.self ≡ replicate (length c.args.map.now) 0 = search rules in
    rw c.no_figures-figures.ensures (collecting_none _ _ _ _ c.requires.0 _ (rw c.requires.1 at cleared))

pub returns-in_default : goal.returns-in_default
returns-in_default c = first_lost _ _ _ _ _ _ _ _ c.loop-w.invariant c.loop-w-test.true (rw c.in_default.is at c.receive_word.ensures)

pub loop-w-preserved : goal.loop-w-preserved
loop-w-preserved c =
    let f = c.args.self.now.f in
    let room = fits _ _ _ _ _ _ _ _ c.loop-w.invariant c.loop-w-test.true in
    let kept = rw c.message-k.ensures at c.receive_word.auto.part in
    let size : length c.receive_word.new.part ≡ message_size (word_setting f) = kept ∙ simp (length-take, length-drop) (omega arith) in
    rw c.message-k.ensures (collecting_more _ _ _ _ _ _ _ _ c.loop-w.invariant c.args.self.now.limits.few c.loop-w-test.true _ _ _ size c.in-Some.ensures)

pub returns : goal.returns
returns c =
    let limits = c.args.self.now.limits in
    all_found _ _ _ _ _ _ _ _ c.loop-w.invariant (omega arith) limits.some limits.few
