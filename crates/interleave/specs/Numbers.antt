-- Why a call on an interleaver is refused, and the paper's number for it (document 01, Numbers a call can answer). The refusals of specs/ are
-- those numbers, and an answer of the code gives, or refuses with the error that its number stands for.
-- Assumes nothing.
use Rattle.std.specs.Prelude.{◌≡◌, refl, ◌≢◌, Bool, false, T, Result, Ok, Err, ℕ, zero, suc, ◌≤◌, ◌<◌}
use Rattle.std.specs.Result.{IsErrAnd}
use Rattle.std.proofs.Common.{ap, ◌∙◌, arith}
use Rattle.std.proofs.lemmas.Result.{err_from_is_err_and}
use Rattle.algebra.specs.Refusal.{first, if_zero}
use Rattle.interleave.specs.declared.block.BlockError.{BlockError}
use Rattle.interleave.specs.declared.block.BlockError.TheVariants as block
use Rattle.interleave.specs.declared.line.LineError.{LineError}
use Rattle.interleave.specs.declared.line.LineError.TheVariants as line

-- the numbers, and the error that each stands for
abbrev pub block_number : BlockError → ℕ
block_number block.BadSetting = 1
block_number block.BadLength = 2

abbrev pub block_error : ℕ → BlockError
block_error zero = block.BadSetting
block_error (suc zero) = block.BadSetting
block_error (suc (suc k)) = block.BadLength

abbrev pub line_number : LineError → ℕ
line_number line.BadSetting = 1
line_number line.BadLength = 2
line_number line.BadMark = 3

abbrev pub line_error : ℕ → LineError
line_error zero = line.BadSetting
line_error (suc zero) = line.BadSetting
line_error (suc (suc zero)) = line.BadLength
line_error (suc (suc (suc k))) = line.BadMark

-- what a call answers whose number is k, where it gives a
abbrev pub answered : {A E : Type 0} → (ℕ → E) → ℕ → A → Result A E
answered error k a = if_zero k (Ok a) (Err (error k))

-- the number of an answer: 0 where it gives
abbrev pub number_of : {A E : Type 0} → (E → ℕ) → Result A E → ℕ
number_of number (Ok a) = 0
number_of number (Err e) = number e

-- ---- laws

module _ {A E : Type 0} (error : ℕ → E) (a : A) where
  -- the number of a call that gives is 0
  pub passed : (k : ℕ) (x : A) → Ok x ≡ answered error k a → k ≡ 0
  passed zero x e = refl
  passed (suc k) x e = absurd (let z : ◌≡◌ {A = Result A E} (Ok x) (Err (error (suc k))) = e in cc)

  -- one that is refused is refused also by what comes after, ..
  pub first_refused : (k b : ℕ) (x : E) {r : Result A E} → IsErrAnd r (λ y. y ≡ x) → Err x ≡ answered error k a → r ≡ answered error (first k b) a
  first_refused zero b x {r} h e = absurd (let z : ◌≡◌ {A = Result A E} (Err x) (Ok a) = e in cc)
  first_refused (suc k) b x {r} h e = let p = err_from_is_err_and r h in rw (p.1, p.2) e

  -- .. and what a `?` then hands on is the error of its number
  pub refused : (k : ℕ) (x : E) {B : Type 0} {r : Result B E} → IsErrAnd r (λ y. y ≡ x) → Err x ≡ answered error k a → (k ≢ 0) × (r ≡ Err (error k))
  refused zero x {B} {r} h e = absurd (let z : ◌≡◌ {A = Result A E} (Err x) (Ok a) = e in cc)
  refused (suc k) x {B} {r} h e =
      let p = err_from_is_err_and r h in
      let z : ◌≡◌ {A = Result A E} (Err x) (Err (error (suc k))) = e in
      let same : x ≡ error (suc k) = cc in
      (λ n. omega arith, rw (p.1, p.2, same) refl)

-- what fails the test of the code fails that of the definition
pub fails : (r b : Bool) → r ≡ b → r ≡ false → ¬ T b
fails r b e h t = let g = rw (← e, h) at t in g

-- neither of two refusals is numbered above k
pub first_most : (a b k : ℕ) → a ≤ k → b ≤ k → first a b ≤ k
first_most zero b k h l = l
first_most (suc a) b k h l = h

-- what is done with either side of a choice
pub through : {A B : Type 0} (f : A → B) (k : ℕ) (a b : A) → f (if_zero k a b) ≡ if_zero k (f a) (f b)
through f zero a b = refl
through f (suc k) a b = refl

-- an error's number stands for it, and no number above the last is met
abbrev pub IsBack : {E : Type 0} → (E → ℕ) → (ℕ → E) → ℕ → Type 0
IsBack number error most = (k : ℕ) → 0 < k → k ≤ most → number (error k) ≡ k

pub block_error_back : IsBack block_number block_error 2
block_error_back zero h l = absurd (omega arith)
block_error_back (suc zero) h l = refl
block_error_back (suc (suc k)) h l = omega arith

pub line_error_back : IsBack line_number line_error 3
line_error_back zero h l = absurd (omega arith)
line_error_back (suc zero) h l = refl
line_error_back (suc (suc zero)) h l = refl
line_error_back (suc (suc (suc k))) h l = omega arith

-- So a call that is refused by k is numbered k, and one that is not is numbered 0: `of` reads the answer out of all that the call gives.
numbered : {A E O : Type 0} (number : E → ℕ) (error : ℕ → E) (most : ℕ) → IsBack number error most → (of : O → Result A E) (k : ℕ) (new old : O) → k ≤ most
    → number_of number (of new) ≡ 0 → of old ≡ Err (error k) → number_of number (of (if_zero k new old)) ≡ k
numbered number error most back of zero new old h e g = e
numbered number error most back of (suc k) new old h e g = ap (number_of number) g ∙ back (suc k) (omega arith) h

pub block_numbered : {A O : Type 0} (of : O → Result A BlockError) (k : ℕ) (new old : O) → k ≤ 2
    → number_of block_number (of new) ≡ 0 → of old ≡ Err (block_error k) → number_of block_number (of (if_zero k new old)) ≡ k
block_numbered of k new old h e g = numbered block_number block_error 2 block_error_back of k new old h e g

pub line_numbered : {A O : Type 0} (of : O → Result A LineError) (k : ℕ) (new old : O) → k ≤ 3
    → number_of line_number (of new) ≡ 0 → of old ≡ Err (line_error k) → number_of line_number (of (if_zero k new old)) ≡ k
line_numbered of k new old h e g = numbered line_number line_error 3 line_error_back of k new old h e g
