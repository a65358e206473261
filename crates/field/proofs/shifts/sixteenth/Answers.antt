-- `field::shifts::sixteenth` meets its contract: four squares, tested at every byte.
use mathlib.Core.Path.{◌≡◌, sym, ap, ◌∙◌}
use mathlib.Core.Bool.{Bool}
use Prim.Native.Nat.{ℕ, ◌+◌, ◌*◌, ◌/◌, ◌%◌, ◌<◌}
use lib.Dec.{T, eqb, eqb→eq}
use borrow.Author.Rules.{rules}
use Rattle.algebra.specs.Xor.{◌⊕◌}
use Rattle.algebra.specs.Tests.{each, each_at}
use Rattle.field.specs.Field.{times, reduce, product, modulus, mul}
use Rattle.field.specs.Raised.{raised, raised_one, raised_add}
use Rattle.field.specs.Gf8.{rules8}
use Rattle.field.proofs.shifts.sixteenth.Goals as goal

code : ℕ → ℕ
code x = x % 2 ⊕ x / 2 % 2 * 76 ⊕ x / 4 % 2 * 157 ⊕ x / 8 % 2 * 70 ⊕ x / 16 % 2 * 95 ⊕ x / 32 % 2 * 253 ⊕ x / 64 % 2 * 217 ⊕ x / 128 * 129

square : ℕ → ℕ
square x = mul 8 x x

right : ℕ → Bool
right x = eqb (code x) (square (square (square (square x))))

rule : T (each 256 right)
unfolding each right code square ◌⊕◌ times reduce product
rule = tt

module _ (x : ℕ) (byte : x < 256) where
  open rules8 use {degree, room}

  abbrev to : ℕ → ℕ
  to = raised 8 (modulus 8) x

  squared : (k : ℕ) → square (to k) ≡ to (k + k)
  unfolding square
  squared k = raised_add 8 (modulus 8) degree room x byte k k

  four-squares : square (square (square (square x))) ≡ to 16
  four-squares =
      ap (λ (y : ℕ). square (square (square (square y)))) (sym (raised_one 8 (modulus 8) degree room x byte))
      ∙ ap (λ (y : ℕ). square (square (square y))) (squared 1) ∙ ap (λ (y : ℕ). square (square y)) (squared 2) ∙ ap square (squared 4) ∙ squared 8

pub returns : goal.returns
unfolding right code ◌⊕◌
returns c = eqb→eq _ _ (each_at 256 right rule c.args.x (search rules)) ∙ four-squares _ (search rules)
