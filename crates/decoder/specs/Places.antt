-- The locators of a word's places, and which of them are flagged. Place i of the list is the coefficient of X^(n - 1 - i), and its locator
-- a^(n - 1 - i).
-- Assumes nothing.
use Rattle.std.specs.Prelude.{◌≡◌, ◌≢◌, List, ℕ, suc, ◌-◌, ◌<◌}
use Rattle.std.proofs.Math.Logic.Dec
use Rattle.std.proofs.Math.Decide.{ℕ_discrete, dec_lt}
use Rattle.algebra.specs.Tests.{at}
use Rattle.algebra.specs.Horner.{pow}
use Rattle.field.proofs.Elements.{K}

-- the locator of the coefficient k
abbrev pub locator : ℕ → ℕ → ℕ
locator m k = pow (K m) 2 k

-- whether the list flags the coefficient k of a word of n
abbrev pub flagged : (flags : List ℕ) (n k : ℕ) → Dec (0 < at flags (n - suc k))
flagged flags n k = dec_lt 0 (at flags (n - suc k))

-- the same, but for the place skip of the list
abbrev pub spare : (flags : List ℕ) (skip n k : ℕ) → Dec ((0 < at flags (n - suc k)) × (n - suc k ≢ skip))
spare flags skip n k = Dec.and (dec_lt 0 (at flags (n - suc k))) (Dec.not (ℕ_discrete (n - suc k) skip))

-- the table holds the locators of the places of a word of n
pub record Locators (m n : ℕ) (table : List ℕ) : Type 0 where
  pub entry : (i : ℕ) → i < n → at table i ≡ locator m (n - suc i)
