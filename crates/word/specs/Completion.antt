-- Every message begins a codeword: the shift register's remainder completes it.
-- Assumes nothing.
use Rattle.std.specs.Prelude.{◌≡◌, List, ◌++◌, ℕ, ◌+◌, ◌-◌, ◌%◌, ◌^◌, ◌<◌, T, length}
use Rattle.std.proofs.Common.{sym, ◌∙◌, subst, mod-eq_of_lt, mod-lt, arith, length-append, pow_pos}
use Rattle.std.proofs.lemmas.Nat.{xor_lt}
use Rattle.algebra.specs.Tests.{at, below, below_all, below_append}
use Rattle.algebra.specs.Horner.{horner}
use Rattle.algebra.specs.Register.{checks, checks_length, checks_root, checks_in}
use Rattle.field.specs.Field.{modulus}
use Rattle.field.specs.Products.{product_below}
use Rattle.field.specs.Elements.{wide}
use Rattle.field.proofs.Elements.{known, K}
use Rattle.word.specs.Setting.{Allowed}
use Rattle.checks.specs.Roots.{root}
use Rattle.word.specs.Codeword.{is_codeword, Codeword, is_codeword_lem}
use Rattle.word.specs.Distance.{own_field, value_at_root, root_value_below}
use Rattle.word.specs.declared.Setting.{Setting}

-- a word with the code's zeros, counted in the theory's way, is a codeword
pub codeword_from : (s : Setting) → Allowed s → (w : List ℕ) → length w ≡ s.n → T (below (2 ^ s.m) w)
    → ((j : ℕ) → j < s.r → horner (K s.m) (root s.m s.b j) 0 w % 2 ^ wide s.m ≡ 0) → Codeword s w
codeword_from s ok w size small z = record {
  size = size;
  small = small;
  zeros = λ j l.
      rw (own_field s ok) at (sym (value_at_root s.m w (s.b + j) (rw (own_field s ok) small))
      ∙ sym (mod-eq_of_lt (root_value_below s.m w (s.b + j) (rw (own_field s ok) small))) ∙ z j l);
}

pub message_completes : (s : Setting) → Allowed s → (message : List ℕ) → length message ≡ s.n - s.r → T (below (2 ^ s.m) message)
    → (checks : List ℕ) × T (is_codeword s (message ++ checks))
message_completes s ok message size small =
    let m : ℕ = s.m in
    let c : List ℕ = checks (K m) (root m s.b) s.r message in
    let sized : length c ≡ s.r = checks_length (K m) (root m s.b) s.r message in
    let entry : (i : ℕ) → at c i < 2 ^ wide m =
    checks_in (K m) (λ x. x < 2 ^ wide m) (pow_pos (wide m)) (λ x y. product_below (wide m) (modulus (wide m)) (known m).rules.degree _ (mod-lt y (pow_pos (wide m)))) (λ x y. xor_lt (wide m) x y) (root m s.b) s.r message in
    let fits : T (below (2 ^ m) c) = below_all (2 ^ m) c λ i l. subst (λ (k : ℕ). at c i < 2 ^ k) (own_field s ok) (entry i) in (
      c,
      is_codeword_lem s (message ++ c) (codeword_from s ok (message ++ c) (length-append message c ∙ omega (arith, ok.room)) (below_append (2 ^ m) message c small fits)
          λ j l. checks_root (K m) (root m s.b) s.r message j l),
    )
