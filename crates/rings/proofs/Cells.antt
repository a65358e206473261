-- The products that the code forms are small, and come to the cells of the specification.
-- Assumes nothing.
use mathlib.Core.Path.{◌≡◌}
use Prim.Native.Nat.{ℕ, ◌+◌, ◌-◌, ◌*◌, ◌/◌, ◌%◌, ◌≤◌, ◌<◌}
use native.Mathlib.Nat.{mul-le-mul_right}
use native.Mathlib.Omega.{arith}
use Rattle.rings.specs.Rings.{tri, ring, tri_half, ring_within}

-- a cell of a ring, and the products on the way to it
pub ring_bound : (k M : ℕ) → k ≤ 32 → M ≤ 128 → (k * (k - 1) ≤ 992) × (k * (k - 1) / 2 * M ≤ 63488) × (k * M ≤ 4096)
ring_bound k M h u =
    let a : k * (k - 1) ≤ 992 = omega (arith, mul-le-mul_right (k - 1) h) in
    let e : k * (k - 1) / 2 ≤ 496 = omega arith in
    (a, omega (arith, mul-le-mul_right M e), omega (arith, mul-le-mul_right M h))

pub ring_code : (M k q : ℕ) → k * (k - 1) / 2 * M + q % (k * M) ≡ ring M k q
unfolding ring
ring_code M k q = rw tri_half

-- the ring lies between the numbers that the code computes, and they give the next cell
pub ring_between : (M k q : ℕ) → 0 < M → 0 < k → let low = k * (k - 1) / 2 * M in (low ≤ ring M k q) × (ring M k q < low + k * M)
ring_between M k q h u = rw tri_half (ring_within M k q h u)

pub next_code : (M k cell : ℕ) → let low = k * (k - 1) / 2 * M in low + (cell + 1 - low) % (low + k * M - low) ≡ tri k * M + (cell + 1 - tri k * M) % (k * M)
next_code M k cell =
    let e : tri k * M + k * M - tri k * M ≡ k * M = omega arith in
    rw (tri_half, e)
