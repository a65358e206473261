-- Document 01, "Receiver's record", as document 02, No. 7 amends it: how a frame stands to what the record has accepted, and what a frame's
-- answer does to the record.
-- Assumes nothing.
use Rattle.std.specs.Prelude.{ℕ, ◌+◌, min, true, false, ◌||◌, ◌==◌, nat_lt, if◌then◌else◌}
use Rattle.record.specs.Memory.{seen_at, seeing, slid}
use Rattle.record.specs.Order.{lead, lag, compared}
use Rattle.record.specs.declared.order.Order.{Order}
use Rattle.record.specs.declared.order.Order.TheVariants.{Same, Ahead, Behind}
use Rattle.record.specs.declared.Record.{Record}
use Rattle.record.specs.declared.Kind.{Kind}
use Rattle.record.specs.declared.Kind.TheVariants.{Newer, Repeat, Older, Late}
pub mod Laws
pub mod History
pub mod Recall
pub mod Rounds

-- one more; a count at 4294967295 stays there
abbrev pub one_more : ℕ → ℕ
one_more count = min (count + 1) 4294967295

-- it has accepted nothing, and its numbers are 0
abbrev pub fresh_record : Record
fresh_record = record { accepted = false; last = 0; newer = 0; repeat = 0; older = 0; refused = 0; late = 0; seen = 0 }

-- the memory once a newer number is the last: the first leaves all 32 unseen, whatever the memory says
unfoldable pub memory_after : Record → ℕ → ℕ
memory_after h new = if h.accepted then slid h.seen (lead new h.last) else 0

-- after an accepted frame of this kind: only newer moves the last number, and late is seen from then on
abbrev pub counted_as : Record → ℕ → Kind → Record
counted_as h new Newer =
    record { accepted = true; last = new; newer = one_more h.newer; repeat = h.repeat; older = h.older; refused = h.refused; late = h.late; seen = memory_after h new }
counted_as h new Repeat =
    record { accepted = true; last = h.last; newer = h.newer; repeat = one_more h.repeat; older = h.older; refused = h.refused; late = h.late; seen = h.seen }
counted_as h new Older =
    record { accepted = true; last = h.last; newer = h.newer; repeat = h.repeat; older = one_more h.older; refused = h.refused; late = h.late; seen = h.seen }
counted_as h new Late =
    record { accepted = true; last = h.last; newer = h.newer; repeat = h.repeat; older = h.older; refused = h.refused; late = one_more h.late; seen = seeing h.seen (lag new h.last) }

-- after a frame refused 4 or 5
abbrev pub lost_after : Record → Record
lost_after h =
    record { accepted = h.accepted; last = h.last; newer = h.newer; repeat = h.repeat; older = h.older; refused = one_more h.refused; late = h.late; seen = h.seen }

-- behind by 1 to 32 is repeat where it was seen, and else late; farther back is older
abbrev pub behind_by : ℕ → ℕ → Kind
behind_by memory d = if nat_lt 32 d then Older else if seen_at memory d then Repeat else Late

-- ahead is newer, the same number again is repeat, and behind goes by the memory
abbrev pub kind_of : (memory behind : ℕ) → Order → Kind
kind_of memory behind Same = Repeat
kind_of memory behind Ahead = Newer
kind_of memory behind Behind = behind_by memory behind

-- the first accepted frame is newer, whatever the last number says
unfoldable pub standing : Record → ℕ → Kind
standing h new = if h.accepted then kind_of h.seen (lag new h.last) (compared new h.last) else Newer

-- after a frame that was answered `number`, with sequence number `new`; refusals 1, 2 and 3 leave the record alone
unfoldable pub noted : Record → ℕ → ℕ → Record
noted h number new =
    if number == 0 then counted_as h new (standing h new) else
    if number == 4 || number == 5 then lost_after h else
    h
