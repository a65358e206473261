-- The positions of a cross line, frame by frame: which are reached, that every ring is where its frame number says, and that a receiver's tell
-- the first 108 frames from all others (document 01, Cross line).
-- Assumes nothing.
use Rattle.std.specs.Prelude.{◌≡◌, refl, ℕ, zero, suc, ◌+◌, ◌*◌, ◌/◌, ◌%◌, ◌≤◌, ◌<◌, eqb}
use Rattle.std.proofs.Common.{sym, ap, ◌∙◌, not-suc-le-zero, add-one, arith, eqb→eq}
use Rattle.std.specs.Int.{◌∣◌}
use Rattle.std.proofs.Math.Nat.{dvd_of_mod-eq-zero, mul-div_cancel', mul-add-mod_self_left, suc-mod}
use Rattle.std.proofs.Math.Decide.{ℕ_discrete}
use Rattle.algebra.specs.Sets.{put_elim, put_no}
use Rattle.algebra.specs.Tests.{each, each_at}
use Rattle.cross.specs.Cross.{cycle, after}

-- the position after so many frames
unfoldable pub position_after : ℕ → ℕ → ℕ
position_after once zero = 0
position_after once (suc F) = after once (position_after once F)

-- the least number that each of 1 to 27 divides
abbrev pub common : ℕ
common = 80313433200

pub common_all : (k : ℕ) → 0 < k → k < 28 → k ∣ common
unfolding each
common_all zero l u = absurd (not-suc-le-zero l)
common_all (suc k) l u = dvd_of_mod-eq-zero (suc k) (eqb→eq (common % suc k) 0 (each_at 27 (λ i. eqb (common % suc i) 0) tt k (omega arith)))

-- ---- which positions are reached

after_below : (once p : ℕ) → p < once + cycle → after once p < once + cycle
unfolding after
after_below once p h = put_elim (ℕ_discrete (p + 1) (once + cycle)) once (p + 1) (λ z. z < once + cycle) (λ e. omega arith) (λ e. omega arith)

pub reachable : (once F : ℕ) → position_after once F < once + cycle
unfolding position_after
reachable once zero = omega arith
reachable once (suc F) = after_below once (position_after once F) (reachable once F)

pub reached : (once p : ℕ) → p < once + cycle → position_after once p ≡ p
unfolding position_after after
reached once zero h = refl
reached once (suc p) h =
    ap (after once) (reached once p (omega arith))
    ∙ put_no (ℕ_discrete (p + 1) (once + cycle)) once (p + 1) (λ e. omega arith) ∙ add-one p

-- ---- the rings

next_rest : (N p F : ℕ) → p % N ≡ F % N → (p + 1) % N ≡ suc F % N
next_rest N p F e = ap (λ (z : ℕ). z % N) (add-one p) ∙ suc-mod p N ∙ ap (λ (z : ℕ). suc z % N) e ∙ sym (suc-mod F N)

whole_turns : (N once : ℕ) → N ∣ cycle → once % N ≡ (once + cycle) % N
whole_turns N once d =
    let e : once + cycle ≡ N * (cycle / N) + once = omega (arith, mul-div_cancel' N d) in
    sym (ap (λ (z : ℕ). z % N) e ∙ mul-add-mod_self_left N (cycle / N) once)

after_rest : (N once p F : ℕ) → N ∣ cycle → p % N ≡ F % N → after once p % N ≡ suc F % N
unfolding after
after_rest N once p F d e =
    put_elim (ℕ_discrete (p + 1) (once + cycle)) once (p + 1) (λ z. z % N ≡ suc F % N)
    (λ g. whole_turns N once d ∙ ap (λ (z : ℕ). z % N) (sym g) ∙ next_rest N p F e)
    λ g. next_rest N p F e

pub rest_after : (N once F : ℕ) → N ∣ cycle → position_after once F % N ≡ F % N
unfolding position_after
rest_after N once zero d = refl
rest_after N once (suc F) d = after_rest N once (position_after once F) F d (rest_after N once F d)

-- ---- the first 108 frames of a receiver

pub early_frame : (F : ℕ) → F < 108 → position_after 108 F < 108
early_frame F h = omega (arith, reached 108 F (omega arith))

after_late : (p : ℕ) → 107 ≤ p → 108 ≤ after 108 p
unfolding after
after_late p h = put_elim (ℕ_discrete (p + 1) (108 + cycle)) 108 (p + 1) (λ z. 108 ≤ z) (λ e. omega arith) (λ e. omega arith)

pub late_frame : (F : ℕ) → 108 ≤ F → 108 ≤ position_after 108 F
unfolding position_after
late_frame zero h = absurd (not-suc-le-zero h)
late_frame (suc F) h = elim (ℕ_discrete F 107) [
  | yes e ↦ after_late (position_after 108 F) (omega (arith, reached 108 F (omega arith)))
  | no e ↦ after_late (position_after 108 F) (omega (arith, late_frame F (omega arith)))
]
