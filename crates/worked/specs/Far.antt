-- Two received words of code S for which no codeword qualifies: P9 and P10 of document 01, "Worked table".
-- Assumes nothing.
use Rattle.std.specs.Prelude.{◌≡◌, refl, List, [], ◌∷◌, ℕ, ◌≤◌, T, length}
use Rattle.std.proofs.Common.{sym, ◌∙◌, arith, lit≤}
use Rattle.std.proofs.Math.Option.{some}
use Rattle.std.proofs.Math.Decide.{ℕ_discrete}
use Rattle.algebra.specs.Xor.{◌⊕◌}
use Rattle.algebra.specs.Tests.{total, each, below}
use Rattle.field.specs.Field.{times, reduce, product, power}
use Rattle.field.specs.Answers.{is_field}
use Rattle.word.specs.Setting.{allowed}
use Rattle.word.specs.Word.{value_from, error_of, errors, marked, error_of_wrong}
use Rattle.word.specs.Codeword.{is_codeword, qualifies, Codeword, InReach, in_reach, is_in_reach}
use Rattle.word.specs.Code.Laws.{corrected_only}
use Rattle.word.specs.declared.Setting.{Setting}

-- m = 8, n = 3, r = 2, b = 0
abbrev pub code_s : Setting
code_s = record { m = 8; n = 3; r = 2; b = 0 }

pub allowed_s : T (allowed code_s)
unfolding allowed is_field
allowed_s = tt

-- ---- two codewords of S that agree in one place are one: with the other two places marked, both qualify

alike : (marks received u w : List ℕ) → length received ≡ 3 → T (qualifies code_s marks received u) → T (qualifies code_s marks received w) → u ≡ w
alike marks received u w n p q =
    let e : some u ≡ some w = sym (corrected_only code_s allowed_s marks received n u p) ∙ corrected_only code_s allowed_s marks received n w q in
    cc

first_0 : (y z : ℕ) → Codeword code_s (0 ∷ y ∷ z ∷ []) → 0 ∷ y ∷ z ∷ [] ≡ 0 ∷ 0 ∷ 0 ∷ []
unfolding qualifies is_codeword each below value_from error_of errors marked total ◌⊕◌ times reduce product power
first_0 y z c =
    let w : List ℕ = 0 ∷ y ∷ z ∷ [] in
    alike (0 ∷ 1 ∷ 1 ∷ []) (0 ∷ 0 ∷ 0 ∷ []) w (0 ∷ 0 ∷ 0 ∷ []) refl (is_in_reach code_s (0 ∷ 1 ∷ 1 ∷ []) (0 ∷ 0 ∷ 0 ∷ []) w (record { code = c; bound = lit≤ tt })) tt

last_2 : (x y : ℕ) → Codeword code_s (x ∷ y ∷ 2 ∷ []) → x ∷ y ∷ 2 ∷ [] ≡ 1 ∷ 3 ∷ 2 ∷ []
unfolding qualifies is_codeword each below value_from error_of errors marked total ◌⊕◌ times reduce product power
last_2 x y c =
    let w : List ℕ = x ∷ y ∷ 2 ∷ [] in
    alike (1 ∷ 1 ∷ 0 ∷ []) (0 ∷ 0 ∷ 2 ∷ []) w (1 ∷ 3 ∷ 2 ∷ []) refl (is_in_reach code_s (1 ∷ 1 ∷ 0 ∷ []) (0 ∷ 0 ∷ 2 ∷ []) w (record { code = c; bound = lit≤ tt })) tt

-- ---- P9: a codeword with one error or none has the 0 in front or the 2 at the end, and so is 0,0,0 or 1,3,2: both have two errors

abbrev Near9 : List ℕ → Type 0
Near9 w = InReach code_s (0 ∷ 0 ∷ 0 ∷ []) (0 ∷ 1 ∷ 2 ∷ []) w

not_000 : Near9 (0 ∷ 0 ∷ 0 ∷ []) → ⊥
unfolding error_of errors marked total
not_000 n = let b : 4 ≤ 2 = n.bound in omega arith

not_132 : Near9 (1 ∷ 3 ∷ 2 ∷ []) → ⊥
unfolding error_of errors marked total
not_132 n = let b : 4 ≤ 2 = n.bound in omega arith

far : (x y z : ℕ) → Near9 (x ∷ y ∷ z ∷ []) → ⊥
unfolding errors marked total
far x y z n = elim (ℕ_discrete 0 x) [
  | yes e ↦ let m : Near9 (0 ∷ y ∷ z ∷ []) = rw (← e) at n in not_000 (rw (first_0 y z m.code) at m)
  | no ne ↦ elim (ℕ_discrete 2 z) [
    | yes e ↦ let m : Near9 (x ∷ y ∷ 2 ∷ []) = rw (← e) at n in not_132 (rw (last_2 x y m.code) at m)
    | no nf ↦ omega (arith, n.bound, error_of_wrong 0 0 x refl ne, error_of_wrong 0 2 z refl nf)
  ]
]

near9_none : (w : List ℕ) → Near9 w → ⊥
near9_none [] n = omega (arith, n.code.size)
near9_none (x ∷ []) n = omega (arith, n.code.size)
near9_none (x ∷ y ∷ []) n = omega (arith, n.code.size)
near9_none (x ∷ y ∷ z ∷ []) n = far x y z n
near9_none (x ∷ y ∷ z ∷ t ∷ w) n = omega (arith, n.code.size)

pub none_near : (w : List ℕ) → T (qualifies code_s (0 ∷ 0 ∷ 0 ∷ []) (0 ∷ 1 ∷ 2 ∷ []) w) → ⊥
none_near w t = near9_none w (in_reach code_s (0 ∷ 0 ∷ 0 ∷ []) (0 ∷ 1 ∷ 2 ∷ []) w t)

-- ---- P10: there are more marks than check symbols

pub too_many : (w : List ℕ) → T (qualifies code_s (1 ∷ 1 ∷ 1 ∷ []) (1 ∷ 3 ∷ 2 ∷ []) w) → ⊥
unfolding marked total
too_many w t = omega (arith, (in_reach code_s (1 ∷ 1 ∷ 1 ∷ []) (1 ∷ 3 ∷ 2 ∷ []) w t).bound)
