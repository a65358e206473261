-- What the promises of the calls settle: none has a second answer, and the inverse is the one number that it can be.
-- Assumes nothing.
use Rattle.std.specs.Prelude.{◌≡◌, refl, true, ℕ, ◌^◌, ◌<◌, if◌then◌else◌, Result, Ok, Err}
use Rattle.std.proofs.Common.{sym, ap, ◌∙◌}
use Rattle.std.proofs.Math.Decide.{ℕ_discrete}
use borrow.Author.Tests.{eqb-true, ne_eqb}
use Rattle.std.proofs.Math.Dec.{eqb}
use Rattle.algebra.specs.Xor.{◌⊕◌}
use Rattle.field.specs.Field.{mul}
use Rattle.field.specs.Elements.{wide, wide_3, wide_8}
use Rattle.field.specs.Answers.{ElementOutcome, element_outcome, done, is_field, product_of, power_of, inverse_of}
use Rattle.field.specs.declared.FieldError.{FieldError}
use Rattle.field.specs.declared.FieldError.TheVariants.{BadField, BadSymbol}

-- ---- two answers that meet one promise are equal

pub sum_once : (x y r s : ℕ) → r ≡ x ⊕ y → s ≡ x ⊕ y → r ≡ s
sum_once x y r s p q = cc

-- an answer is known by its number and its value
answer : ElementOutcome → Result ℕ FieldError
answer o = if eqb o.number 0 then Ok o.value else if eqb o.number 1 then Err BadField else Err BadSymbol

answered : (r : Result ℕ FieldError) → answer (element_outcome r) ≡ r
unfolding answer
answered (Ok x) = refl
answered (Err BadField) = refl
answered (Err BadSymbol) = refl

outcome_once : (r s : Result ℕ FieldError) → element_outcome r ≡ element_outcome s → r ≡ s
outcome_once r s e = sym (answered r) ∙ ap answer e ∙ answered s

pub product_once : (m x y : ℕ) (r s : Result ℕ FieldError) → element_outcome r ≡ product_of m x y → element_outcome s ≡ product_of m x y → r ≡ s
product_once m x y r s p q = outcome_once r s (p ∙ sym q)

pub power_once : (m i : ℕ) (r s : Result ℕ FieldError) → element_outcome r ≡ power_of m i → element_outcome s ≡ power_of m i → r ≡ s
power_once m i r s p q = outcome_once r s (p ∙ sym q)

pub inverse_once : (m x : ℕ) (r s : Result ℕ FieldError) → element_outcome r ≡ inverse_of m x → element_outcome s ≡ inverse_of m x → r ≡ s
inverse_once m x r s p q = outcome_once r s (p ∙ sym q)

-- ---- the inverse

-- a number that is a field's names that field
pub wide_field : (m : ℕ) → is_field m ≡ true → wide m ≡ m
unfolding is_field
wide_field m h = elim (ℕ_discrete m 3) [
  | yes e ↦ wide_3 m e ∙ sym e
  | no ne ↦ wide_8 m ne ∙ sym (eqb-true m 8 (rw (ne_eqb m 3 ne) at h))
]

-- the answer is a number below 2^m whose product with x is 1, and no other number is that
pub record Inverse (m x : ℕ) (o : ElementOutcome) : Type 0 where
  pub value : ℕ
  pub answer : o ≡ done value
  pub below : value < 2 ^ m
  pub gives_one : mul m x value ≡ 1
  pub only : (z : ℕ) → z < 2 ^ m → mul m x z ≡ 1 → z ≡ value
