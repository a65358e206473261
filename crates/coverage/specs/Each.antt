-- Lists that a relation holds of entry by entry.
-- Assumes nothing.
use Rattle.std.specs.Prelude.{◌≡◌, refl, ℕ, zero, suc, ◌<◌, length, get_or}
use Rattle.std.proofs.Common.{ap, ap₂, not-suc-le-zero, arith}
use mathlib.Core.List.{List, [], ◌∷◌}
use Rattle.algebra.specs.Lists.{tabulate}

-- two lists are equally long, and R holds of each entry of the one with that of the other
abbrev pub Each : {A B : Type 0} → (A → B → Type 0) → List A → List B → Type 0
Each R [] [] = Unit {0}
Each R [] (y ∷ ys) = ⊥
Each R (x ∷ xs) [] = ⊥
Each R (x ∷ xs) (y ∷ ys) = R x y × Each R xs ys

module _ {A B : Type 0} (R : A → B → Type 0) where
  pub each_length : (xs : List A) (ys : List B) → Each R xs ys → length xs ≡ length ys
  each_length [] [] e = refl
  each_length [] (y ∷ ys) e = elim e [ ]
  each_length (x ∷ xs) [] e = elim e [ ]
  each_length (x ∷ xs) (y ∷ ys) e = ap suc (each_length xs ys e.1)

  pub each_entry : (xs : List A) (ys : List B) (a : A) (b : B) → Each R xs ys → (i : ℕ) → i < length xs → R (get_or xs i a) (get_or ys i b)
  each_entry [] ys a b e i l = absurd (not-suc-le-zero l)
  each_entry (x ∷ xs) [] a b e i l = elim e [ ]
  each_entry (x ∷ xs) (y ∷ ys) a b e zero l = e.0
  each_entry (x ∷ xs) (y ∷ ys) a b e (suc i) l = each_entry xs ys a b e.1 i (omega arith)

  -- a list whose entry i has R with f i
  pub each_tabulate : (xs : List A) (a : A) (f : ℕ → B) → ((i : ℕ) → i < length xs → R (get_or xs i a) (f i)) → Each R xs (tabulate (length xs) f)
  unfolding tabulate
  each_tabulate [] a f h = tt
  each_tabulate (x ∷ xs) a f h = (h 0 (omega arith), each_tabulate xs a (λ i. f (suc i)) λ i l. h (suc i) (omega arith))

  -- where no two have R with one, no two lists have it with one list
  pub each_once : ((x y : A) (z : B) → R x z → R y z → x ≡ y) → (zs : List B) (xs ys : List A) → Each R xs zs → Each R ys zs → xs ≡ ys
  each_once once [] [] [] e f = refl
  each_once once [] [] (y ∷ ys) e f = elim f [ ]
  each_once once [] (x ∷ xs) ys e f = elim e [ ]
  each_once once (z ∷ zs) [] ys e f = elim e [ ]
  each_once once (z ∷ zs) (x ∷ xs) [] e f = elim f [ ]
  each_once once (z ∷ zs) (x ∷ xs) (y ∷ ys) e f = ap₂ ◌∷◌ (once x y z e.0 f.0) (each_once once zs xs ys e.1 f.1)

  pub each_chain : {C : Type 0} (S : B → C → Type 0) (Q : A → C → Type 0) → ((x : A) (y : B) (z : C) → R x y → S y z → Q x z)
      → (xs : List A) (ys : List B) (zs : List C) → Each R xs ys → Each S ys zs → Each Q xs zs
  each_chain S Q both [] [] [] e f = tt
  each_chain {C = C} S Q both [] [] (z ∷ zs) e f = elim f [ ]
  each_chain {C = C} S Q both [] (y ∷ ys) zs e f = elim e [ ]
  each_chain {C = C} S Q both (x ∷ xs) [] zs e f = elim e [ ]
  each_chain {C = C} S Q both (x ∷ xs) (y ∷ ys) [] e f = elim f [ ]
  each_chain S Q both (x ∷ xs) (y ∷ ys) (z ∷ zs) e f = (both x y z e.0 f.0, each_chain S Q both xs ys zs e.1 f.1)
