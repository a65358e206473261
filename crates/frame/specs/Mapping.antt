-- A frame's map is put together word by word (document 02, No. 6): it is cleared first, and a word that was changed is put into its slots. One that
-- was not, as most are, has nothing to put.
-- Assumes nothing.
use Rattle.std.specs.Prelude.{◌≡◌, refl, List, ℕ, zero, suc, ◌+◌, ◌*◌, ◌%◌, ◌≤◌, ◌<◌, length, replicate}
use Rattle.std.proofs.Common.{sym, ap, ◌∙◌, arith}
use Rattle.std.proofs.lemmas.List.{length-replicate}
use Rattle.algebra.specs.Tests.{at}
use Rattle.algebra.specs.Lists.{joined}
use Rattle.interleave.specs.Block.{spread, low}
use Rattle.interleave.specs.Slots.{PutsWord, Putting, putting_none, putting_more, putting_all}

pub zeros_at : (n i : ℕ) → at (replicate n 0) i ≡ 0
zeros_at zero i = refl
zeros_at (suc n) zero = refl
zeros_at (suc n) (suc i) = zeros_at n i

-- the slots of word w are 0
pub record Blank (J w : ℕ) (map : List ℕ) : Type 0 where
  pub zeros : (t : ℕ) → t % J ≡ w → at map t ≡ 0

-- a word's map that may be left out: without changed bits it has no place
pub record Spare (bits n : ℕ) (changed : List ℕ) : Type 0 where
  pub size : length changed ≡ n
  pub none : bits ≡ 0 → changed ≡ replicate n 0

-- so a map whose slots are 0 already holds it
pub put_none : (J n w : ℕ) (changed map : List ℕ) → w < J → Blank J w map → changed ≡ replicate n 0 → PutsWord J w changed map map
put_none J n w changed map l b e = record {
  size = refl;
  here = λ i h. b.zeros (i * J + w) (low i w l) ∙ sym (ap (λ (c : List ℕ). at c i) e ∙ zeros_at n i);
  others = λ t h. refl;
}

-- the maps f i below w are in their slots, and the rest is 0
pub record Mapping (J n : ℕ) (f : ℕ → List ℕ) (w : ℕ) (map : List ℕ) : Type 0 where
  pub put : Putting J n f w map
  pub rest : (t : ℕ) → w ≤ t % J → at map t ≡ 0

module _ (J n : ℕ) (f : ℕ → List ℕ) where
  pub mapping_none : (map : List ℕ) → map ≡ replicate (n * J) 0 → Mapping J n f 0 map
  mapping_none map e = record {
    put = putting_none J n f map (ap length e ∙ length-replicate (n * J) 0);
    rest = λ t h. ap (λ (m : List ℕ). at m t) e ∙ zeros_at (n * J) t;
  }

  module _ (w : ℕ) (map : List ℕ) (h : Mapping J n f w map) where
    pub mapping_more : (word left : List ℕ) → w < J → word ≡ f w → length word ≡ n → PutsWord J w word map left → Mapping J n f (w + 1) left
    mapping_more word left l e s p = record {
      put = putting_more J n f w word map left l e s h.put p;
      rest = λ t u. p.others t (λ q. omega arith) ∙ h.rest t (omega arith);
    }

    pub mapping_all : J ≤ w → 0 < J → map ≡ spread J n (joined J f)
    mapping_all l j = putting_all J n f w map l j h.put
