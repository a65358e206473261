-- The record's calls for C (document 01, Receiver's record): the record as C lends it, what is seen of the one after a frame, what noting
-- promises, and that no call has a second answer.
-- Assumes nothing.
use Rattle.std.specs.Prelude.{◌≡◌, refl, Bool, true, false, not, ◌≢◌, ℕ, eqb, if◌then◌else◌}
use Rattle.std.proofs.Common.{ne_eqb}
use Rattle.std.proofs.Math.Decide.{ℕ_discrete}
use Rattle.record.specs.Memory.{unseen_in}
use Rattle.record.specs.Record.{fresh_record, standing}
use Rattle.record.specs.Promises.{Notes, notes_once}
use Rattle.record.specs.declared.Record.{Record}
use Rattle.record.specs.declared.Kind.{Kind}
use Rattle.record.specs.declared.Kind.TheVariants.{Newer, Repeat, Older, Late}
use Rattle.radio.specs.Shown.{Shows, shown_once}
use Rattle.radio.specs.declared.records.LentRecord.{LentRecord}

-- any byte but 0 says that a frame was accepted
abbrev pub record_of : LentRecord → Record
record_of h =
    record {
      accepted = not (eqb h.accepted 0);
      last = h.last;
      newer = h.newer;
      repeat = h.repeat;
      older = h.older;
      refused = h.refused;
      late = h.late;
      seen = h.seen;
    }

-- a byte that says so stays as it is
unfoldable pub flag_after : ℕ → Bool → ℕ
flag_after flag accepted = if not (eqb flag 0) then flag else if accepted then 1 else 0

-- the next record, over the one that was lent
abbrev pub record_seen : LentRecord → Record → LentRecord
record_seen before next =
    record {
      accepted = flag_after before.accepted next.accepted;
      last = next.last;
      newer = next.newer;
      repeat = next.repeat;
      older = next.older;
      refused = next.refused;
      late = next.late;
      seen = next.seen;
    }

abbrev pub fresh_lent : LentRecord
fresh_lent = record { accepted = 0; last = 0; newer = 0; repeat = 0; older = 0; refused = 0; late = 0; seen = 0 }

-- a record of which only these three are known
abbrev pub judged_by : (accepted last seen : ℕ) → LentRecord
judged_by accepted last seen = record { accepted = accepted; last = last; newer = 0; repeat = 0; older = 0; refused = 0; late = 0; seen = seen }

abbrev pub kind_number : Kind → ℕ
kind_number Newer = 0
kind_number Repeat = 1
kind_number Older = 2
kind_number Late = 3

-- ---- the promise: `yaxo_record_note` answers what is seen of the record's own note, and `yaxo_record_note_in` leaves it

abbrev pub RecordNote : LentRecord → ℕ → ℕ → LentRecord → Type 0
RecordNote h answer new r = Shows (record_seen h) (Notes (record_of h) answer new) r

-- ---- laws

-- a fresh record says what the paper's does
pub fresh_lent_lem : record_of fresh_lent ≡ fresh_record
fresh_lent_lem = refl

-- the cases of the byte
module _ (flag : ℕ) (accepted : Bool) where
  pub flag_told : flag ≢ 0 → flag ≡ flag_after flag accepted
  unfolding flag_after
  flag_told n = rw (ne_eqb flag 0 n)

  pub flag_first : flag ≡ 0 → accepted ≡ true → 1 ≡ flag_after flag accepted
  unfolding flag_after
  flag_first z a = rw (z, a)

  pub flag_none : flag ≡ 0 → accepted ≡ false → 0 ≡ flag_after flag accepted
  unfolding flag_after
  flag_none z a = rw (z, a)

flag_stays : (flag : ℕ) → flag_after flag (not (eqb flag 0)) ≡ flag
unfolding flag_after
flag_stays flag = elim (ℕ_discrete flag 0) [ yes z ↦ rw z | no n ↦ rw (ne_eqb flag 0 n) ]

-- a record that is left alone is left alone to the byte
pub lent_stays : (h : LentRecord) → record_seen h (record_of h) ≡ h
lent_stays h = rw (flag_stays h.accepted)

-- ---- no second answer: of each call's answer, and of what it leaves in the lent record

pub record_fresh_once : (r q : LentRecord) → r ≡ fresh_lent → q ≡ fresh_lent → r ≡ q
record_fresh_once r q p u = cc

pub record_standing_once : (accepted last seen new r q : ℕ) → r ≡ kind_number (standing (record_of (judged_by accepted last seen)) new)
    → q ≡ kind_number (standing (record_of (judged_by accepted last seen)) new) → r ≡ q
record_standing_once accepted last seen new r q p u = cc

pub record_unseen_once : (seen r q : ℕ) → r ≡ unseen_in seen → q ≡ unseen_in seen → r ≡ q
record_unseen_once seen r q p u = cc

pub record_note_once : (h : LentRecord) (answer new : ℕ) (r q : LentRecord) → RecordNote h answer new r → RecordNote h answer new q → r ≡ q
record_note_once h answer new r q p u = shown_once p u refl (notes_once _ _ _ _ _ p.promised u.promised)
