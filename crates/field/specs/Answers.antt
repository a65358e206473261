-- Document 01, "Field" and "Numbers a call can answer": what the field's calls answer. The number is 1 where m is no field's and 3 where a
-- symbol will not do.
-- Assumes nothing.
use Rattle.std.specs.Prelude.{Bool, ◌&&◌, ◌||◌, not, ℕ, ◌^◌, ltb, eqb, if◌then◌else◌, Result, Ok, Err}
use Rattle.algebra.specs.Tests.{first_below}
use Rattle.field.specs.Field.{mul, a^}
use Rattle.field.specs.declared.FieldError.{FieldError}
use Rattle.field.specs.declared.FieldError.TheVariants.{BadField, BadSymbol}

-- this paper's number of an answer, and the element; 0 under a refusal
abbrev pub number_of : Result ℕ FieldError → ℕ
number_of (Ok x) = 0
number_of (Err BadField) = 1
number_of (Err BadSymbol) = 3

abbrev pub value_of : Result ℕ FieldError → ℕ
value_of (Ok x) = x
value_of (Err e) = 0

pub record ElementOutcome : Type 0 where
  pub number : ℕ
  pub value : ℕ

abbrev pub element_outcome : Result ℕ FieldError → ElementOutcome
element_outcome e = record { number = number_of e; value = value_of e }

abbrev pub refused : ℕ → ElementOutcome
refused k = record { number = k; value = 0 }

abbrev pub done : ℕ → ElementOutcome
done x = record { number = 0; value = x }

-- ---- the calls

unfoldable pub is_field : ℕ → Bool
is_field m = eqb m 3 || eqb m 8

-- x is below 2^m
unfoldable pub is_element : ℕ → ℕ → Bool
is_element m x = ltb x (2 ^ m)

unfoldable pub product_of : ℕ → ℕ → ℕ → ElementOutcome
product_of m x y =
    if not (is_field m) then refused 1 else
    if not (is_element m x && is_element m y) then refused 3 else
    done (mul m x y)

unfoldable pub power_of : ℕ → ℕ → ElementOutcome
power_of m i =
    if not (is_field m) then refused 1 else
    done (a^ m i)

-- the number below 2^m whose product with x is 1
unfoldable pub inverse_of : ℕ → ℕ → ElementOutcome
inverse_of m x =
    if not (is_field m) then refused 1 else
    if not (is_element m x) || eqb x 0 then refused 3 else
    done (first_below (2 ^ m) λ y. eqb (mul m x y) 1)
