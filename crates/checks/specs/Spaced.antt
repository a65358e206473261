-- Symbols that stand apart from each other, as those of one word do in its slots: they are divided where they stand, and none is copied.
-- Assumes nothing.
use Rattle.std.specs.Prelude.{◌≡◌, Bool, true, false, ◌≢◌, List, ℕ, ◌+◌, ◌*◌, ◌≤◌, ◌<◌, length, take, drop}
use Rattle.std.proofs.Math.Path.{refl}
use Rattle.std.proofs.Common.{sym, ap, ◌∙◌, add-mul, arith, length-take-le, get_or-take, get_or-drop}
use Rattle.std.proofs.Math.Decide.{dec_lt}
use Rattle.std.proofs.Math.ListN.{get_or-eq_default}
use Rattle.algebra.specs.Tests.{at}
use Rattle.algebra.specs.Lists.{tabulate, length_tabulate, get_or_tabulate, tabulated}
use Rattle.checks.specs.Symbols.{One, Four}

-- n symbols, `step` apart, from the one at `first` on
unfoldable pub spaced : (step first n : ℕ) → List ℕ → List ℕ
spaced step first n slots = tabulate n λ i. at slots (i * step + first)

-- each of them is one of the slots, of which there are so many
pub record Within (step first n size : ℕ) : Type 0 where
  pub each : (i : ℕ) → i < n → i * step + first < size

-- the symbol that stands k further on
further : (step first i k : ℕ) → (i + k) * step + first ≡ i * step + first + k * step
further step first i k = rw (add-mul i k step) (omega arith)

-- the last of four symbols is one of the slots
pub four_within : (step first n size i : ℕ) → Within step first n size → i + 4 ≤ n → i * step + first + 3 * step < size
four_within step first n size i w l = rw (further step first i 3) at (w.each (i + 3) (omega arith))

module _ (step first n : ℕ) (slots : List ℕ) where
  abbrev symbols : List ℕ
  symbols = spaced step first n slots

  pub spaced_rule : symbols ≡ tabulate n λ i. at slots (i * step + first)
  unfolding spaced
  spaced_rule = refl

  pub length_spaced : length symbols ≡ n
  length_spaced = rw spaced_rule (length_tabulate n λ i. at slots (i * step + first))

  spaced_at : (i : ℕ) → i < n → at symbols i ≡ at slots (i * step + first)
  spaced_at i l = rw spaced_rule (get_or_tabulate n (λ i. at slots (i * step + first)) i 0 l)

  spaced_further : (i k : ℕ) → i + k < n → at slots (i * step + first + k * step) ≡ at symbols (i + k)
  spaced_further i k l = sym (spaced_at (i + k) l ∙ ap (at slots) (further step first i k))

  spaced_bytes : ((j : ℕ) → at slots j < 256) → (j : ℕ) → at symbols j < 256
  spaced_bytes h j = elim (dec_lt j n) [
    | yes l ↦ rw (spaced_at j l) (h (j * step + first))
    | no l ↦ rw (get_or-eq_default symbols 0 {n = j} (omega (arith, length_spaced))) (omega arith)
  ]

  -- ---- as the register reads them

  module _ (i t : ℕ) where
    pub spaced_one : i < n → t ≡ at slots (i * step + first) → t < 256 → One symbols i t
    spaced_one l e b = record { value = e ∙ sym (spaced_at i l); byte = b }

    pub spaced_four : ((j : ℕ) → at slots j < 256) → i + 4 ≤ n
        → t ≡ at slots (i * step + first) + at slots (i * step + first + step) * 256 + at slots (i * step + first + 2 * step) * 65536 + at slots (i * step + first + 3 * step) * 16777216
        → Four symbols i t
    spaced_four small l e =
        let one : 1 * step ≡ step = omega arith in
        let next : at slots (i * step + first + step) ≡ at symbols (i + 1) = rw one at (spaced_further i 1 (omega arith)) in
        record {
          value = e ∙ rw (← spaced_at i (omega arith), next, spaced_further i 2 (omega arith), spaced_further i 3 (omega arith));
          bytes = spaced_bytes small;
        }

-- ---- check symbols beside those that stand behind k symbols

-- symbol j of those behind them
abbrev pub behind_at : List ℕ → (step first k j : ℕ) → ℕ
behind_at slots step first k j = at slots ((k + j) * step + first)

-- t says whether the first r are those
pub record Agree (checks : List ℕ) (r : ℕ) (slots : List ℕ) (step first k : ℕ) (t : Bool) : Type 0 where
  pub same : t ≡ true → (j : ℕ) → j < r → at checks j ≡ behind_at slots step first k j
  pub other : t ≡ false → (j : ℕ) × (j < r) × (at checks j ≢ behind_at slots step first k j)

-- a front of them, and the rest
module _ (step first n : ℕ) (slots : List ℕ) (k : ℕ) (l : k ≤ n) where
  pub spaced_front : take k (spaced step first n slots) ≡ spaced step first k slots
  spaced_front =
      tabulated (take k (spaced step first n slots)) k (λ i. at slots (i * step + first)) 0 (length-take-le k (spaced step first n slots) (rw (length_spaced step first n slots) l))
      (λ i h. get_or-take k (spaced step first n slots) i 0 h ∙ spaced_at step first n slots i (omega arith))
      ∙ sym (spaced_rule step first k slots)

  pub spaced_rest : (j : ℕ) → k + j < n → at (drop k (spaced step first n slots)) j ≡ behind_at slots step first k j
  spaced_rest j h = get_or-drop k (spaced step first n slots) j 0 ∙ spaced_at step first n slots (k + j) h
