-- `Line::check` meets its contract: each limit that is broken refuses the line, and those passed make it allowed; they bound the products.
use Rattle.std.proofs.Common.{ℕ, ap, refl, arith}
use borrow.Author.Rules.{rules}
use Rattle.algebra.specs.Refusal.{need_yes, need_no}
use Rattle.interleave.specs.Numbers.{answered, line_error}
use Rattle.interleave.specs.Setting.{line_refusal}
use Rattle.interleave.proofs.line.Line.check.Goals as goal
use Rattle.interleave.proofs.line.Line.check.Goals.{then-n-branches-ne0-via-then-n-branches-ne0, then-n-branches-ne0-via-else-n-branches-ne0+then-unit-branches, then-n-branches-ne0-via-else-n-branches-ne0+else-unit-branches+then-period-self}

pub returns-then-branches-lt2 : goal.returns-then-branches-lt2
unfolding line_refusal
returns-then-branches-lt2 c =
    ap (λ (k : ℕ). answered line_error k tt) (need_no _ 1 _ λ a. let s = a.setting in omega (arith, s.branches.0, s.branches.1, s.unit.0, s.unit.1, s.size.0, s.size.1))

pub returns-then-n-branches-ne0 : goal.returns-then-n-branches-ne0
unfolding line_refusal
returns-then-n-branches-ne0 c =
    ap (λ (k : ℕ). answered line_error k tt) (need_no _ 1 _ λ a. let s = a.setting in elim c.then-n-branches-ne0.branch [
      | then-n-branches-ne0-via-then-n-branches-ne0 w ↦ w.if-n-branches-ne0.true s.whole
      | then-n-branches-ne0-via-else-n-branches-ne0+then-unit-branches w ↦ omega (arith, s.room)
      | then-n-branches-ne0-via-else-n-branches-ne0+else-unit-branches+then-period-self w ↦ omega (arith, a.position, w.period.ensures)
    ])

pub returns-then-length-unit : goal.returns-then-length-unit
unfolding line_refusal
returns-then-length-unit c = ap (λ (k : ℕ). answered line_error k tt) (need_yes _ _ _ _ (search rules) (need_no _ _ _ c.if-length-unit.true))

pub returns : goal.returns
unfolding line_refusal
returns c = ap (λ (k : ℕ). answered line_error k tt) (need_yes _ _ _ 0 (search rules) (need_yes _ _ _ 0 c.if-length-unit.false refl))
