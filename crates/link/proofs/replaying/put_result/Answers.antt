-- `put_result` meets its contract: the four numbers are put one by one, and the figures into the part behind them.
use mathlib.Core.Path.{ap, ◌∙◌}
use mathlib.Core.List.{[]}
use Rattle.frame.specs.Frame.{receive_outcome}
use Rattle.frame.specs.declared.setting.Received.{Received}
use Rattle.link.specs.Replay.{numbers_of}
use Rattle.link.specs.Replay.Places.{put_whole}
use Rattle.link.proofs.replaying.put_result.Goals as goal

pub returns : goal.returns
returns c =
    let numbers = c.received_of-numbers.ensures in
    put_whole (receive_outcome c.args.answer [] []) c.args.place.now c.put_figures.new.place c.requires _ _ _ _
    (c.from.ensures ∙ c.number_of.ensures) (c.from-2.ensures ∙ c.word_number.ensures) (ap (λ (r : Received). r.sequence) numbers) (ap (λ (r : Received). r.back) numbers)
    (c.put_figures.ensures ∙ ap (λ (r : Received). numbers_of r.figures) numbers)
