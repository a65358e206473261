-- Document 01, "Receiver's record": how one sequence number stands to another, by their wrapped difference alone.
-- Assumes nothing.
use Rattle.std.specs.Prelude.{ℕ, ◌+◌, ◌-◌, ◌%◌, ◌==◌, nat_lt, if◌then◌else◌}
use Rattle.record.specs.declared.order.Order.{Order}
use Rattle.record.specs.declared.order.Order.TheVariants.{Same, Ahead, Behind}
pub mod Laws

-- the new number minus the last, wrapped at 65536
abbrev pub lead : ℕ → ℕ → ℕ
lead new last = (new + (65536 - last)) % 65536

-- the last number minus the new, wrapped the same way
abbrev pub lag : ℕ → ℕ → ℕ
lag new last = (65536 - lead new last) % 65536

-- with d the lead: d = 0 is the same number, 1 to 32767 ahead, 32768 to 65535 behind
unfoldable pub compared : ℕ → ℕ → Order
compared new last = if lead new last == 0 then Same else if nat_lt (lead new last) 32768 then Ahead else Behind
