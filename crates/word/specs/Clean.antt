-- Document 02, No. 9: whether a received word is a codeword as it stands. There are no marks, and nothing is lent to be written.
-- Assumes nothing.
use Rattle.std.specs.Prelude.{Bool, false, List, ℕ, ◌^◌, length, Result, Ok, Err}
use Rattle.std.proofs.Math.Decide.{ℕ_discrete}
use Rattle.algebra.specs.Tests.{below}
use Rattle.algebra.specs.Refusal.{need, if_zero, passes}
use Rattle.word.specs.Setting.{allowed}
use Rattle.word.specs.Codeword.{is_codeword}
use Rattle.word.specs.Answers.{input_number}
use Rattle.word.specs.declared.Setting.{Setting}
use Rattle.word.specs.declared.InputError.{InputError}
pub mod Laws

-- the code's answer in this paper's terms: its number, and whether the word is a codeword
abbrev pub clean_number : Result Bool InputError → ℕ
clean_number (Ok b) = 0
clean_number (Err e) = input_number e

abbrev pub is_yes : Result Bool InputError → Bool
is_yes (Ok b) = b
is_yes (Err e) = false

pub record CleanOutcome : Type 0 where
  pub number : ℕ
  pub clean : Bool

abbrev pub clean_outcome : Result Bool InputError → CleanOutcome
clean_outcome d = record { number = clean_number d; clean = is_yes d }

-- checked in the order 1, 2, 3; 0 where all are passed
unfoldable pub clean_refusal : Setting → List ℕ → ℕ
clean_refusal s word = need (passes (allowed s)) 1 (need (ℕ_discrete (length word) s.n) 2 (need (passes (below (2 ^ s.m) word)) 3 0))

-- a refused word is not called clean
unfoldable pub cleanness : Setting → List ℕ → CleanOutcome
cleanness s word =
    let k = clean_refusal s word in
    if_zero k (record { number = 0; clean = is_codeword s word }) (record { number = k; clean = false })
