-- Sixteen symbols moved by one place, away from the first.
-- Assumes nothing.
use Rattle.std.specs.Prelude.{◌≡◌, ℕ, zero, suc, ◌+◌, ◌-◌, ◌*◌, ◌/◌, ◌%◌, ◌^◌, ◌<◌}
use Rattle.std.proofs.Common.{sym, ap, ◌∙◌}
use Rattle.std.proofs.Math.Decide.{dec_lt}
use native.Mathlib.Omega.{arith}
use Rattle.std.proofs.Math.Pow.{field, mod-mod-pow}
use Rattle.algebra.specs.Bytes.{byte, byte_first, byte_next, whole, whole_low, whole_high}

low_seven : (n i : ℕ) → i < 7 → byte (n % 72057594037927936) i ≡ byte n i
unfolding byte
low_seven n i l =
    let e : 56 ≡ 56 - (8 + 8 * i) + (8 + 8 * i) = omega arith in
    sym (field (n % 2 ^ 56) 8 (8 * i)) ∙ ap (λ (x : ℕ). n % 2 ^ x % 2 ^ (8 + 8 * i) / 2 ^ (8 * i)) e
    ∙ ap (λ (x : ℕ). x / 2 ^ (8 * i)) (mod-mod-pow n (56 - (8 + 8 * i)) (8 + 8 * i)) ∙ field n 8 (8 * i)

-- entry k has gone to k + 1, and e to the first
pub record Down (a b e c d : ℕ) : Type 0 where
  pub first : byte (whole c d) 0 ≡ e
  pub next : (j : ℕ) → j < 15 → byte (whole c d) (suc j) ≡ byte (whole a b) j

module _ (a b e : ℕ) (la : a < 2 ^ 64) (le : e < 256) where
  pub down_fits : e + 256 * (a % 72057594037927936) < 2 ^ 64
  down_fits = omega arith

  last : a / 72057594037927936 < 256
  last = omega arith

  last_byte : a / 72057594037927936 ≡ byte a 7
  unfolding byte
  last_byte = omega arith

  pub down : Down a b e (e + 256 * (a % 72057594037927936)) (a / 72057594037927936 + 256 * (b % 72057594037927936))
  down = record {
    first = whole_low _ _ 0 down_fits (omega arith) ∙ byte_first e _ le;
    next = λ j l. elim (dec_lt j 7) [
      | yes y ↦ whole_low _ _ (suc j) down_fits (omega arith) ∙ byte_next e _ j le ∙ low_seven a j y ∙ sym (whole_low a b j la (omega arith))
      | no y ↦ upper (j - 7) j (omega arith) (omega arith)
    ];
  }
    where
      upper : (i j : ℕ) → j ≡ 7 + i → i < 8 → byte (whole (e + 256 * (a % 72057594037927936)) (a / 72057594037927936 + 256 * (b % 72057594037927936))) (suc j) ≡ byte (whole a b) j
      upper zero j q l =
          let z : suc j ≡ 8 + 0 = omega arith in
          let y : j ≡ 7 = omega arith in
          rw (z, y) (whole_high _ _ 0 down_fits ∙ byte_first _ _ last ∙ last_byte ∙ sym (whole_low a b 7 la (omega arith)))
      upper (suc i) j q l =
          let z : suc j ≡ 8 + suc i = omega arith in
          let y : j ≡ 8 + i = omega arith in
          rw (z, y) (whole_high _ _ (suc i) down_fits ∙ byte_next _ _ i last ∙ low_seven b i (omega arith) ∙ sym (whole_high a b i la))
