-- Where the places of a word travel (document 01, Block interleaver and frame, Delay line): at least the depth apart, and never far.
-- Assumes nothing.
use Rattle.std.specs.Prelude.{◌≡◌, ℕ, suc, ◌+◌, ◌-◌, ◌*◌, ◌/◌, ◌%◌, ◌≤◌, ◌<◌}
use Rattle.std.proofs.Common.{sym, ap₂, ◌∙◌, mul_assoc, div-lt_iff_lt-mul}
use Rattle.std.proofs.Math.Path.{ap}
use Rattle.std.specs.Int.{◌∣◌}
use Rattle.std.proofs.Math.Nat.{mul-le-mul_right, suc-mul, add-mul, mod-lt, div-mul_cancel, div-add-mod', mul-add-mod_self_right, dvd_of_mod-eq-zero}
use Rattle.std.proofs.Math.Decide.{dec_lt}
use native.Mathlib.Omega.{arith}
use Rattle.interleave.specs.Line.{sent, received, carried, delivered}
use Rattle.coverage.specs.Runs.{Spaced, Near}
use Rattle.coverage.specs.Line.{LineSetting, LineAllowed, delay, slot_of}

-- ---- frames: byte i of a word travels in slot i * J + w, whichever frame w counts from

pub block_spaced : (J n w : ℕ) → Spaced J n (λ i. i * J + w)
block_spaced J n w p q h k e l = elim (dec_lt p q) [
  | yes u ↦ omega (arith, mul-le-mul_right J u, suc-mul p J)
  | no u ↦ let v : suc q ≤ p = omega arith in omega (arith, mul-le-mul_right J v, suc-mul q J)
]

pub block_near : (J n w : ℕ) → Near ((n - 1) * J) n (λ i. i * J + w)
block_near J n w p q h k = let l : q ≤ n - 1 = omega arith in omega (arith, mul-le-mul_right J l)

-- ---- delay lines

module _ (l : LineSetting) (ok : LineAllowed l) where
  abbrev I : ℕ
  I = l.branches

  abbrev M : ℕ
  M = l.unit

  abbrev n : ℕ
  n = l.n

  some : 0 < I
  some = omega (arith, ok.line.branches.0)

  whole : I ∣ n
  whole = dvd_of_mod-eq-zero I ok.line.whole

  module _ (w : ℕ) where
    -- a later branch leaves at least I slots later, since n ≤ M * I and I divides n
    later_branch : (p q : ℕ) → p < n → p % I < q % I → slot_of l w p + I ≤ slot_of l w q
    unfolding slot_of
    later_branch p q h k =
        let b : p < n / I * I = omega (arith, div-mul_cancel I whole) in
        let a : p / I < n / I = (div-lt_iff_lt-mul some).1 b in
        omega (
          arith,
          ok.line.room,
          div-add-mod' p I,
          div-add-mod' q I,
          mul-le-mul_right I a,
          suc-mul (p / I) I,
          div-mul_cancel I whole,
          mul-le-mul_right I (mul-le-mul_right M k),
          ap (λ (z : ℕ). z * I) (suc-mul (p % I) M),
          add-mul (p % I * M) M I,
        )

    -- and so does a later place on the same branch
    same_branch : (p q : ℕ) → p % I ≡ q % I → p / I < q / I → slot_of l w p + I ≤ slot_of l w q
    unfolding slot_of
    same_branch p q e k = omega (arith, div-add-mod' p I, div-add-mod' q I, mul-le-mul_right I k, suc-mul (p / I) I, ap (λ (z : ℕ). z * M * I) e)

    pub line_spaced : Spaced I n (slot_of l w)
    line_spaced p q h k e le = elim (dec_lt (p % I) (q % I)) [
      | yes u ↦ later_branch p q h u
      | no u ↦ elim (dec_lt (q % I) (p % I)) [
        | yes v ↦ absurd (omega (arith, later_branch q p k v))
        | no v ↦ elim (dec_lt (p / I) (q / I)) [
          | yes x ↦ same_branch p q (omega arith) x
          | no x ↦ elim (dec_lt (q / I) (p / I)) [
            | yes y ↦ absurd (omega (arith, same_branch q p (omega arith) y))
            | no y ↦ absurd (e (sym (div-add-mod' p I) ∙ ap₂ (λ (y z : ℕ). y * I + z) (omega arith) (omega arith) ∙ div-add-mod' q I))
          ]
        ]
      ]
    ]

    pub line_near : Near (n + delay l) n (slot_of l w)
    unfolding slot_of
    line_near p q h k =
        let j : q % I ≤ I - 1 = omega (arith, mod-lt q some) in
        omega (arith, mul-le-mul_right I (mul-le-mul_right M j))

    -- a place's branch is the same in every word
    branch : (p : ℕ) → (w * n + p) % I ≡ p % I
    branch p = ap (λ (z : ℕ). (w * z + p) % I) (sym (div-mul_cancel I whole)) ∙ ap (λ (z : ℕ). (z + p) % I) (sym (mul_assoc w (n / I) I)) ∙ mul-add-mod_self_right (w * (n / I)) I p

    -- The sender puts what was put in for place p into its slot.
    pub line_place : (f : ℕ → ℕ) (p : ℕ) → sent I M f (slot_of l w p) ≡ f (w * n + p)
    unfolding slot_of
    line_place f p = ap (λ (j : ℕ). sent I M f (w * n + p + j * M * I)) (sym (branch p)) ∙ carried I M ok.line.branches.0 ok.line.branches.1 ok.line.unit.0 f (w * n + p)

    -- What the receiver gives for it, bytes (d = 0) and marks (d = 1), is what that slot held, whatever it was.
    pub line_found : (d : ℕ) (g : ℕ → ℕ) (p : ℕ) → received I M d g (w * n + p + delay l) ≡ g (slot_of l w p)
    unfolding slot_of
    line_found d g p = delivered I M ok.line.branches.0 ok.line.branches.1 ok.line.unit.0 d g (w * n + p) ∙ ap (λ (j : ℕ). g (w * n + p + j * M * I)) (branch p)
