-- The inverse is the one number that it can be.
-- Assumes nothing.
use Rattle.std.specs.Prelude.{◌≡◌, true, ℕ, ◌^◌, ◌<◌}
use Rattle.std.proofs.Common.{sym, ap, ◌∙◌, subst, arith}
use borrow.Author.Tests.{eq-eqb, ne_eqb, lt-ltb}
use Rattle.std.proofs.Math.Dec.{eqb}
use Rattle.algebra.specs.Tests.{first_is}
use Rattle.field.specs.Field.{mul}
use Rattle.field.specs.Elements.{Known, inverse, inverse_below, inverse_one, undo}
use Rattle.field.specs.Answers.{done, is_field, is_element, inverse_of}
use Rattle.field.specs.Once.{wide_field, Inverse}
use Rattle.field.proofs.Elements.{known}

module _ (m x : ℕ) (field : is_field m ≡ true) (some : 0 < x) (small : x < 2 ^ m) where
  ours : Known m
  ours = subst Known (wide_field m field) (known m)

  pub one_inverse : (y z : ℕ) → y < 2 ^ m → z < 2 ^ m → mul m x y ≡ 1 → mul m x z ≡ 1 → y ≡ z
  one_inverse y z a b p q =
      sym (undo m ours x y small a (omega arith)) ∙ ap (mul m (inverse m ours x)) (p ∙ sym q) ∙ undo m ours x z small b (omega arith)

  pub inverse_is : (y : ℕ) → y < 2 ^ m → mul m x y ≡ 1 → inverse_of m x ≡ done y
  unfolding inverse_of is_element
  inverse_is y l p =
      simp (field, lt-ltb x (2 ^ m) small, ne_eqb x 0 (omega arith))
      (ap done (first_is (2 ^ m) (λ z. eqb (mul m x z) 1) y l (λ z k. ne_eqb (mul m x z) 1 λ q. let e : z ≡ y = one_inverse z y (omega arith) l q p in omega arith) (eq-eqb (mul m x y) 1 p)))

-- where x is an element and not 0, the answer is its inverse
pub inverse_means : (m x : ℕ) → is_field m ≡ true → 0 < x → x < 2 ^ m → Inverse m x (inverse_of m x)
inverse_means m x field some small =
    let y : ℕ = inverse m (ours m x field some small) x in
    let l : y < 2 ^ m = inverse_below m (ours m x field some small) x in
    let p : mul m x y ≡ 1 = inverse_one m (ours m x field some small) x some small in
    record {
      value = y;
      answer = inverse_is m x field some small y l p;
      below = l;
      gives_one = p;
      only = λ z k q. one_inverse m x field some small z y k l q p;
    }
