-- What each call on the record promises of its answer, and that no second answer meets it (document 01, What each call owes its caller).
-- Assumes nothing.
use Rattle.std.specs.Prelude.{◌≡◌, ℕ}
use Rattle.std.proofs.Common.{sym, ◌∙◌}
use Rattle.record.specs.Memory.{unseen_in}
use Rattle.record.specs.Record.{fresh_record, standing, noted}
use Rattle.record.specs.declared.Record.{Record}
use Rattle.record.specs.declared.Kind.{Kind}

-- `note` gives this record, and `note_in` leaves it where the old one stood
pub record Notes (before : Record) (number sequence : ℕ) (next : Record) : Type 0 where
  pub outcome : next ≡ noted before number sequence

pub notes_once : (before : Record) (number sequence : ℕ) (r s : Record) → Notes before number sequence r → Notes before number sequence s → r ≡ s
notes_once before number sequence r s p q = p.outcome ∙ sym q.outcome

-- `fresh`, `standing_of` and `unseen_of` promise an equation
pub fresh_once : (r s : Record) → r ≡ fresh_record → s ≡ fresh_record → r ≡ s
fresh_once r s p q = cc

pub standing_once : (before : Record) (sequence : ℕ) (r s : Kind) → r ≡ standing before sequence → s ≡ standing before sequence → r ≡ s
standing_once before sequence r s p q = cc

pub unseen_once : (before : Record) (r s : ℕ) → r ≡ unseen_in before.seen → s ≡ unseen_in before.seen → r ≡ s
unseen_once before r s p q = cc
