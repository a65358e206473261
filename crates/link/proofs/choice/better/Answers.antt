-- `better` meets its contract: of two accepted copies it refuses two frames, and else the one with less damage is used.
use Rattle.link.specs.Masts.Laws.{chooses_differ, chooses_better_first, chooses_better_second}
use Rattle.link.proofs.choice.better.Goals as goal

pub returns-then-first-second : goal.returns-then-first-second
returns-then-first-second c = chooses_differ _ _ c.if-first-second.true

pub returns-then-damage_in : goal.returns-then-damage_in
returns-then-damage_in c =
    chooses_better_second _ _ c.if-first-second.false (rw (c.damage_in.ensures, c.damage_in-2.ensures) at c.if-damage_in.true)

pub returns : goal.returns
returns c =
    chooses_better_first _ _ c.if-first-second.false (rw (c.damage_in.ensures, c.damage_in-2.ensures) at c.if-damage_in.false)
