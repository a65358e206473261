-- The walk of one branch through its ring: byte i of the run is the next of the branch, and `cell` is where its ring stands.
-- Assumes nothing.
use mathlib.Core.Path.{◌≡◌, refl, sym, ◌∙◌}
use mathlib.Core.Logic.{◌≢◌}
use mathlib.Core.List.{List}
use Prim.Native.Nat.{ℕ, suc, ◌+◌, ◌-◌, ◌*◌, ◌/◌, ◌%◌, ◌≤◌, ◌<◌}
use native.Mathlib.Nat.{mod-le, mod-eq_of_lt, div-eq_of_lt, add-mod_right, add-div_right, add-zero}
use native.Mathlib.Decide.{ℕ_discrete}
use native.Mathlib.Omega.{arith}
use lib.ListN.{length, get_or, set, length-set}
use Rattle.algebra.specs.Refusal.{kept}
use Rattle.rings.specs.Rings.{tri, ring, rest_apart, ring_next}
use Rattle.rings.specs.Branch.{Lent, lent, swapped, taken, walked}
use Rattle.rings.proofs.Swaps.{taken_yes, taken_still, taken_idle}

module _ (M k q I f : ℕ) (m₀ bs₀ : List ℕ) where
  -- without a ring all stay
  pub walked_none : k ≡ 0 → lent m₀ bs₀ ≡ walked M k q I f m₀ bs₀
  unfolding walked
  walked_none e = sym (taken_idle _ _ _ (length bs₀) (lent m₀ bs₀) λ i. e)

  -- the steps of the branch below n
  abbrev steps : ℕ → Lent
  steps n = taken (λ i. ℕ_discrete (i % I) f) (λ i. k) (λ i. ring M k (q + i / I)) n (lent m₀ bs₀)

  pub record Walking (cell i : ℕ) (m bs : List ℕ) : Type 0 where
    pub exact : length m ≡ length m₀
    pub count : length bs ≡ length bs₀
    pub branch : i % I ≡ f
    pub near : i < length bs₀ + I
    pub stands : cell ≡ ring M k (q + i / I)
    pub done : lent m bs ≡ steps i

  pub walking_none : (cell : ℕ) → f < I → cell ≡ ring M k q → Walking cell f m₀ bs₀
  unfolding taken
  walking_none cell h e = record {
    exact = refl;
    count = refl;
    branch = mod-eq_of_lt h;
    near = omega arith;
    stands = rw (div-eq_of_lt h, add-zero) e;
    done = sym (taken_still _ _ _ 0 f (lent m₀ bs₀) (omega arith) λ j u v g. omega (arith, mod-le j I));
  }

  -- between two bytes of the branch no other of its bytes lies
  next_step : (i : ℕ) → 0 < I → i % I ≡ f → steps (i + I) ≡ swapped k (ring M k (q + i / I)) i (steps i)
  next_step i h e =
      taken_still _ _ _ (suc i) (i + I) (lent m₀ bs₀) (omega arith) (λ j u v g. rest_apart I i j (omega arith) v (e ∙ sym g))
      ∙ taken_yes _ _ _ i (lent m₀ bs₀) e

  pub walking_more : (cell later i : ℕ) (m bs : List ℕ) → 0 < I → k ≢ 0 → i < length bs₀ → later ≡ tri k * M + (cell + 1 - tri k * M) % (k * M)
      → Walking cell i m bs → Walking later (i + I) (set m cell (get_or bs i 0)) (set bs i (get_or m cell 0))
  walking_more cell later i m bs h u l e p =
      let turn : q + (i + I) / I ≡ q + i / I + 1 = omega (arith, add-div_right i h) in
      record {
        exact = length-set m cell _ ∙ p.exact;
        count = length-set bs i _ ∙ p.count;
        branch = add-mod_right i I ∙ p.branch;
        near = omega arith;
        stands = rw (turn, ring_next M k (q + i / I), ← p.stands) e;
        done = rw (next_step i h p.branch, ← p.done, ← p.stands) (kept k (lent m bs) _ u);
      }

  pub walking_all : (cell i : ℕ) (m bs : List ℕ) → length bs₀ ≤ i → Walking cell i m bs → lent m bs ≡ walked M k q I f m₀ bs₀
  unfolding walked
  walking_all cell i m bs h p =
      p.done ∙ taken_still _ _ _ (length bs₀) i (lent m₀ bs₀) h λ j u v g. rest_apart I j i v (omega (arith, p.near)) (g ∙ sym p.branch)
