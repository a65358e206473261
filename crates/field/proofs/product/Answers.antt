-- `field::product` meets its contract: its tests are those of the definition, in the same order, and a number that passes names its own field.
use mathlib.Core.Path.{sym, ◌∙◌}
use Rattle.field.specs.Answers.{product_of}
use Rattle.field.proofs.Calls.{element, product_is}
use Rattle.field.proofs.product.Goals as goal

pub returns-then-not-is_field : goal.returns-then-not-is_field
unfolding product_of
returns-then-not-is_field c = simp (sym c.is_field.ensures ∙ c.if-not-is_field.true)

pub returns-then-not-is_element : goal.returns-then-not-is_element
unfolding product_of
returns-then-not-is_element c =
    let field = sym c.is_field.ensures ∙ c.if-not-is_field.false in
    simp (field, element _ field _ _ _ c.is_element.ensures c.if-not-is_element.true)

pub returns-then-not-is_element-2 : goal.returns-then-not-is_element-2
unfolding product_of
returns-then-not-is_element-2 c =
    let field = sym c.is_field.ensures ∙ c.if-not-is_field.false in
    let first = element _ field _ _ _ c.is_element.ensures c.if-not-is_element.false in
    simp (field, first, element _ field _ _ _ c.is_element-2.ensures c.if-not-is_element-2.true)

pub returns : goal.returns
returns c =
    let field = sym c.is_field.ensures ∙ c.if-not-is_field.false in
    product_is _ field _ _ _ (element _ field _ _ _ c.is_element.ensures c.if-not-is_element.false)
    (element _ field _ _ _ c.is_element-2.ensures c.if-not-is_element-2.false) c.times.ensures
