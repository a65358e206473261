-- Tables that are made once for many words of one code, and the check symbols that they give.
-- Assumes nothing.
use Rattle.std.proofs.Common.{arith}
use Rattle.std.specs.Prelude.{List, ℕ, ◌<◌, ◌≤◌, length}
use Rattle.algebra.specs.Bytes.{bytes}
use Rattle.checks.specs.Checks.{divisor, Checks}
use Rattle.checks.specs.Rows.{Rows}
use Rattle.checks.specs.Division.{Divided, divided_all}
use Rattle.checks.specs.OneWord.{none}

-- the tables are those of the code with the r roots from a^b on; up to eight check symbols need no second one
pub record Prepared (m b r : ℕ) (low high : List ℕ) : Type 0 where
  pub few : r ≤ 16
  pub alone : r ≤ 8 → Rows 4 m (divisor m b r) low none
  pub both : 8 < r → Rows 4 m (divisor m b r) low high

-- the first r entries of `result` are the message's check symbols in every code whose tables these are
pub record ChecksBy (r : ℕ) (low high message result : List ℕ) : Type 0 where
  pub each : (m b : ℕ) → Prepared m b r low high → Checks m b r message result

pub by_short : (r : ℕ) (low high message : List ℕ) (x y : ℕ) → r ≤ 8 → Divided low none message (length message) x y → ChecksBy r low high message (bytes x y)
by_short r low high message x y l d = record { each = λ m b p. divided_all m b r low none message (length message) x y p.few (p.alone l) (omega arith) d }

pub by_long : (r : ℕ) (low high message : List ℕ) (x y : ℕ) → 8 < r → Divided low high message (length message) x y → ChecksBy r low high message (bytes x y)
by_long r low high message x y l d = record { each = λ m b p. divided_all m b r low high message (length message) x y p.few (p.both l) (omega arith) d }
