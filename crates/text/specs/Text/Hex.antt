-- Bytes in base sixteen, one after the other.
-- Assumes nothing.
use Rattle.std.specs.Prelude.{◌≡◌, refl, List, [], ◌∷◌, ◌++◌, ℕ, zero, suc, ◌+◌, ◌*◌, ◌<◌, length, get_or, take}
use Rattle.std.proofs.Common.{not-suc-le-zero, le_of_suc-le-suc, add-one, arith}
use Rattle.text.specs.Text.{hex, hexes}

pub hexes_size : (l : List ℕ) → length (hexes l) ≡ 2 * length l
unfolding hexes hex
hexes_size [] = refl
hexes_size (x ∷ l) = omega (arith, hexes_size l)

hexes_suc : (l : List ℕ) (i : ℕ) → i < length l → hexes (take (suc i) l) ≡ hexes (take i l) ++ hex (get_or l i 0)
unfolding hexes hex
hexes_suc [] i h = absurd (not-suc-le-zero h)
hexes_suc (x ∷ l) zero h = refl
hexes_suc (x ∷ l) (suc i) h = rw (hexes_suc l i (le_of_suc-le-suc h))

pub hexes_more : (l : List ℕ) (i : ℕ) → i < length l → hexes (take (i + 1) l) ≡ hexes (take i l) ++ hex (get_or l i 0)
hexes_more l i h = rw add-one (hexes_suc l i h)
