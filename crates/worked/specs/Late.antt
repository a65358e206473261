-- Document 02, No. 7, in short histories: what a fresh record holds after these frames, all accepted.
-- Assumes nothing.
use Rattle.std.specs.Prelude.{◌≡◌, refl, true, List, [], ◌∷◌, map, ℕ}
use Rattle.record.specs.Memory.{seen_at, seeing, slid}
use Rattle.record.specs.Order.{compared}
use Rattle.record.specs.Record.{fresh_record, memory_after, standing, noted}
use Rattle.record.specs.Record.History.{after}
use Rattle.record.specs.declared.Record.{Record}

abbrev pub after_all : List ℕ → Record
after_all numbers = after fresh_record (map (λ (x : ℕ). record { number = 0; sequence = x }) numbers)

pub record LateTable : Type 0 where
  -- 12 is late the first time and repeat the second; 10, which was newer, is repeat too. Of the 32 below 13 those at distances 1 and 3 are seen
  pub late_then_repeat : after_all (10 ∷ 13 ∷ 12 ∷ 12 ∷ 10 ∷ [])
      ≡ record { accepted = true; last = 13; newer = 2; repeat = 2; older = 0; refused = 0; late = 1; seen = 5 }
  -- 32 behind is late, across 65535 too, and 33 behind is older
  pub as_far_as_32 : after_all (0 ∷ 65504 ∷ 65503 ∷ [])
      ≡ record { accepted = true; last = 0; newer = 1; repeat = 0; older = 1; refused = 0; late = 1; seen = 2147483648 }
  -- the old last is seen at its distance, as far as 32
  pub old_last : (after_all (65535 ∷ 2 ∷ [])).seen ≡ 4
  pub kept_by_32 : (after_all (10 ∷ 42 ∷ [])).seen ≡ 2147483648
  pub lost_by_33 : (after_all (10 ∷ 43 ∷ [])).seen ≡ 0

pub late_table : LateTable
unfolding after noted standing compared memory_after slid seen_at seeing
late_table = record { late_then_repeat = refl; as_far_as_32 = refl; old_last = refl; kept_by_32 = refl; lost_by_33 = refl }
