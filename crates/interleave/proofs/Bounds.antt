-- The products that the code forms are small, and come to the sizes of the specification.
-- Assumes nothing.
use Prim.Native.Nat.{ℕ, ◌*◌, ◌≤◌}
use native.Mathlib.Nat.{mul-le-mul_right}
use native.Mathlib.Omega.{arith}
use Rattle.interleave.specs.Line.{common, common_most}

-- the period of a line, and the product on the way to it
pub period_bound : (I M : ℕ) → I ≤ 16 → M ≤ 128 → (common I * M ≤ 46126080) × (common I * M * I ≤ 738017280)
period_bound I M h k =
    let a : common I * M ≤ 46126080 = omega (arith, mul-le-mul_right M (common_most I (omega arith))) in
    (a, omega (arith, mul-le-mul_right I a))
