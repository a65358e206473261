-- Why a call on a cross line is refused, why a frame that was taken gives no message, and the paper's number for each (document 01, Cross line
-- and Numbers a call can answer). The refusals of specs/ are those numbers.
-- Assumes nothing.
use Rattle.std.specs.Prelude.{refl, Result, Ok, Err, ℕ, zero, suc}
use Rattle.std.proofs.Common.{arith}
use Rattle.interleave.specs.Numbers.{IsBack}
use Rattle.word.specs.Answers.{no_figures}
use Rattle.word.specs.declared.Figures.{Figures}
use Rattle.cross.specs.declared.position.CrossError.{CrossError}
use Rattle.cross.specs.declared.position.CrossError.TheVariants.{BadPosition, BadLength, BadMark}
use Rattle.cross.specs.declared.position.NoMessage.{NoMessage}
use Rattle.cross.specs.declared.position.NoMessage.TheVariants.{NotYet, BeyondReach}

abbrev pub cross_number : CrossError → ℕ
cross_number BadPosition = 1
cross_number BadLength = 2
cross_number BadMark = 3

-- the error that a number stands for
abbrev pub cross_error : ℕ → CrossError
cross_error zero = BadPosition
cross_error (suc zero) = BadPosition
cross_error (suc (suc zero)) = BadLength
cross_error (suc (suc (suc k))) = BadMark

abbrev pub message_number : NoMessage → ℕ
message_number NotYet = 7
message_number BeyondReach = 4

-- the number of a frame that was taken, and the figures of its message, 0 where there is none
abbrev pub taken_number : Result Figures NoMessage → ℕ
taken_number (Ok f) = 0
taken_number (Err e) = message_number e

abbrev pub taken_figures : Result Figures NoMessage → Figures
taken_figures (Ok f) = f
taken_figures (Err e) = no_figures

pub cross_error_back : IsBack cross_number cross_error 3
cross_error_back zero h l = absurd (omega arith)
cross_error_back (suc zero) h l = refl
cross_error_back (suc (suc zero)) h l = refl
cross_error_back (suc (suc (suc k))) h l = omega arith
