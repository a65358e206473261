-- Document 02, No. 9: whether every word of a frame is a codeword as received, and which is the first that is not. The trailer is not looked at.
-- Assumes nothing.
use Rattle.std.specs.Prelude.{Bool, true, false, not, Result, Ok, Err, Option, Some, None, List, ℕ, ltb, length, if◌then◌else◌}
use Rattle.std.proofs.Math.Decide.{ℕ_discrete}
use Rattle.algebra.specs.Tests.{first_below}
use Rattle.algebra.specs.Refusal.{need, if_zero, passes}
use Rattle.word.specs.Codeword.{is_codeword}
use Rattle.interleave.specs.Slots.{word_in}
use Rattle.frame.specs.Frame.{word_setting, slot_count, allowed_frame}
use Rattle.frame.specs.declared.setting.Framing.{Framing}
use Rattle.frame.specs.declared.clean.CleanError.{CleanError}
use Rattle.frame.specs.declared.clean.CleanError.TheVariants.{BadSetting, BadLength}

-- the code's answer in this paper's terms: its number, whether all words are codewords, and the first that is none
abbrev pub clean_number : {A : Type 0} → Result A CleanError → ℕ
clean_number (Ok w) = 0
clean_number (Err BadSetting) = 1
clean_number (Err BadLength) = 2

abbrev pub is_yes : Result (Option ℕ) CleanError → Bool
is_yes (Ok None) = true
is_yes (Ok (Some w)) = false
is_yes (Err e) = false

-- 0 where the frame is clean or refused
abbrev pub unclean_word : Result (Option ℕ) CleanError → ℕ
unclean_word (Ok None) = 0
unclean_word (Ok (Some w)) = w
unclean_word (Err e) = 0

pub record CleanOutcome : Type 0 where
  pub number : ℕ
  pub clean : Bool
  pub word : ℕ

abbrev pub clean_outcome : Result (Option ℕ) CleanError → CleanOutcome
clean_outcome d = record { number = clean_number d; clean = is_yes d; word = unclean_word d }

-- word w is no codeword as received
abbrev pub is_unclean : Framing → List ℕ → ℕ → Bool
is_unclean f slots w = not (is_codeword (word_setting f) (word_in f.depth f.n slots w))

-- the first of all words that is none; J where all are codewords
unfoldable pub unclean : Framing → List ℕ → ℕ
unclean f slots = first_below f.depth (is_unclean f slots)

-- a frame of J words whose first that is none is w
abbrev pub found : (J w : ℕ) → CleanOutcome
found J w = if ltb w J then record { number = 0; clean = false; word = w } else record { number = 0; clean = true; word = 0 }

-- checked in the order 1, 2; 0 where both are passed
unfoldable pub clean_refusal : Framing → List ℕ → ℕ
clean_refusal f slots = need (passes (allowed_frame f)) 1 (need (ℕ_discrete (length slots) (slot_count f)) 2 0)

-- a refused frame is not called clean
unfoldable pub cleanness : Framing → List ℕ → CleanOutcome
cleanness f slots =
    let k = clean_refusal f slots in
    if_zero k (found f.depth (unclean f slots)) (record { number = k; clean = false; word = 0 })
