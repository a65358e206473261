-- `field::inverse` meets its contract: its tests are those of the definition, in the same order, and the number that
-- `inverse_at` gives is the only one below 2^m whose product with x is 1.
use mathlib.Core.Path.{sym, ◌∙◌}
use borrow.Author.Tests.{eq-eqb}
use Rattle.field.specs.Answers.{inverse_of}
use Rattle.field.proofs.Calls.{element, inverse_found}
use Rattle.field.proofs.inverse.Goals as goal

pub returns-then-not-is_field : goal.returns-then-not-is_field
unfolding inverse_of
returns-then-not-is_field c = simp (sym c.is_field.ensures ∙ c.if-not-is_field.true)

pub returns-then-not-is_element : goal.returns-then-not-is_element
unfolding inverse_of
returns-then-not-is_element c =
    let field = sym c.is_field.ensures ∙ c.if-not-is_field.false in
    simp (field, element _ field _ _ _ c.is_element.ensures c.if-not-is_element.true)

pub returns-then-x-eq0 : goal.returns-then-x-eq0
unfolding inverse_of
returns-then-x-eq0 c =
    let field = sym c.is_field.ensures ∙ c.if-not-is_field.false in
    simp (field, element _ field _ _ _ c.is_element.ensures c.if-not-is_element.false, eq-eqb _ _ c.if-x-eq0.true)

pub returns : goal.returns
returns c =
    let field = sym c.is_field.ensures ∙ c.if-not-is_field.false in
    inverse_found _ field _ _ (element _ field _ _ _ c.is_element.ensures c.if-not-is_element.false) c.if-x-eq0.false c.inverse_at.ensures
