-- Text as bytes: quoted text, decimal numbers, the line of a refusal, and bytes in base sixteen (document 01, "Worked table").
-- Assumes nothing.
use Rattle.std.specs.Prelude.{List, [], ◌∷◌, ◌++◌, ℕ, zero, suc, ◌+◌, ◌-◌, ◌/◌, ◌%◌, ltb, if◌then◌else◌}
use Prim.Native.Char.{code}
use Prim.Native.String.{String, [] as end, ◌∷◌ as ◌then◌}
pub mod Decimal
pub mod Hex

-- a quoted text
abbrev pub bytes : String → List ℕ
bytes end = []
bytes (c then s) = code c ∷ bytes s

abbrev pub digit : ℕ → ℕ
digit d = 48 + d

-- a number without leading zeros; k is at least as many as its digits
unfoldable pub digits : ℕ → ℕ → List ℕ
digits zero n = []
digits (suc k) n = let all = digits k (n / 10) ++ digit (n % 10) ∷ [] in if ltb n 10 then digit n ∷ [] else all

unfoldable pub decimal : ℕ → List ℕ
decimal n = digits (suc n) n

-- a signed number of 32 bits, with a minus sign where negative: n is what its four bytes hold, and 2 ^ 31 and more is n - 2 ^ 32
unfoldable pub signed : ℕ → List ℕ
signed n = if ltb n 2147483648 then decimal n else bytes "-" ++ decimal (4294967296 - n)

-- what a number is, and the number
unfoldable pub named : List ℕ → ℕ → List ℕ
named name n = name ++ decimal n

-- the line of a refusal
unfoldable pub refusal : ℕ → List ℕ
refusal number = named (bytes "refused ") number ++ bytes "\n"

-- a digit of base sixteen, `0` to `9` and `A` to `F`; a byte has two
unfoldable pub hex_digit : ℕ → ℕ
hex_digit d = if ltb d 10 then 48 + d else 55 + d

unfoldable pub hex : ℕ → List ℕ
hex x = hex_digit (x / 16) ∷ hex_digit (x % 16) ∷ []

unfoldable pub hexes : List ℕ → List ℕ
hexes [] = []
hexes (x ∷ l) = hex x ++ hexes l
