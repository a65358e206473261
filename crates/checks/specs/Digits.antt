-- A digit's rows in a table: they are sums of its bits' rows, so each bit doubles them.
-- Assumes nothing.
use Rattle.std.specs.Prelude.{◌≡◌, List, ℕ, ◌+◌, ◌-◌, ◌^◌, ◌<◌, length, set}
use Rattle.std.proofs.Common.{sym, ap, ap₂, ◌∙◌, arith, get_or-set_same}
use Rattle.std.proofs.Math.Decide.{dec_lt}
use Rattle.std.specs.Int.Bits.{bit_xor}
use Rattle.algebra.specs.Tests.{at}
use Rattle.packed.specs.Combs.{comb, comb_zero, comb_upper}

-- from `from` on, the table t holds what f gives at the numbers below s
pub record Digit (n : ℕ) (f : ℕ → ℕ) (s : ℕ) (t : List ℕ) (from : ℕ) : Type 0 where
  pub each : (v : ℕ) → v < s → at t (from + v) ≡ comb n f v

-- the s entries from `from` on, summed with x, have come behind them
pub record Twice (t u : List ℕ) (from s x : ℕ) : Type 0 where
  pub size : length u ≡ length t
  pub kept : (j : ℕ) → j < from + s → at u j ≡ at t j
  pub upper : (v : ℕ) → v < s → at u (from + s + v) ≡ bit_xor (at t (from + v)) x

pub digit_none : (n : ℕ) (f : ℕ → ℕ) (t : List ℕ) (from : ℕ) → from < length t → Digit n f 1 (set t from 0) from
digit_none n f t from l = record {
  each = λ v h.
      let e : v ≡ 0 = omega arith in
      let z : from + 0 ≡ from = omega arith in
      rw (e, z) (get_or-set_same t from 0 0 l ∙ sym (comb_zero n f));
}

pub digit_more : (n : ℕ) (f : ℕ → ℕ) (k : ℕ) (t u : List ℕ) (from x : ℕ) → k < n → x ≡ f k → Digit n f (2 ^ k) t from → Twice t u from (2 ^ k) x → Digit n f (2 ^ k + 2 ^ k) u from
digit_more n f k t u from x h e d w = record {
  each = λ v l. elim (dec_lt v (2 ^ k)) [
    | yes y ↦ w.kept (from + v) (omega arith) ∙ d.each v y
    | no y ↦
        let a : from + 2 ^ k + (v - 2 ^ k) ≡ from + v = omega arith in
        let b : 2 ^ k + (v - 2 ^ k) ≡ v = omega arith in
        let z : v - 2 ^ k < 2 ^ k = omega arith in
        sym (ap (at u) a) ∙ w.upper (v - 2 ^ k) z ∙ ap₂ bit_xor (d.each (v - 2 ^ k) z) e ∙ sym (comb_upper n f k (v - 2 ^ k) h z) ∙ ap (comb n f) b
  ];
}

-- ---- the loop that does it

pub record Twicing (t : List ℕ) (from s x n : ℕ) (u : List ℕ) : Type 0 where
  pub size : length u ≡ length t
  pub kept : (j : ℕ) → j < from + s → at u j ≡ at t j
  pub upper : (v : ℕ) → v < n → at u (from + s + v) ≡ bit_xor (at t (from + v)) x
