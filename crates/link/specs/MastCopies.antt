-- What is lent for the copies of a frame, as the calls on two masts take it and leave it.
-- Assumes nothing.
use Rattle.std.specs.Prelude.{◌≡◌}
use Rattle.link.specs.Masts.{Copy, copy_of, Left, left_of}
use Rattle.link.specs.declared.masts.MastCopy.{MastCopy}

-- a copy before a call, and what is left for it after it
abbrev pub copied : MastCopy → Copy
copied c = copy_of c.slots.now c.marks.now c.area.now c.map.now

abbrev pub left_in : MastCopy → Left
left_in c = left_of c.area.now c.map.now

-- the same slots, marks, area and map are lent, so that their caller sees what is left in the last two
pub record Lent (before after : MastCopy) : Type 0 where
  pub slots : after.slots ≡ before.slots
  pub marks : after.marks ≡ before.marks
  pub area : after.area.ghost_name ≡ before.area.ghost_name
  pub map : after.map.ghost_name ≡ before.map.ghost_name
