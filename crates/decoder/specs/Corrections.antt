-- The values at the flagged places of a word, and what taking them out makes of the word and of its power sums.
-- Assumes nothing.
use Rattle.std.specs.Prelude.{◌≡◌, ◌≢◌, List, length, set}
use Rattle.std.proofs.Math.Path.{refl}
use Rattle.std.proofs.Common.{sym, ap, ◌∙◌, mod-lt, add-one, arith, length-set, pow_pos, get_or-set_same, get_or-set_other}
use Prim.Native.Nat.{ℕ, zero, suc, ◌+◌, ◌-◌, ◌%◌, ◌^◌, ◌<◌, ◌≤◌}
use Rattle.std.proofs.Math.Decide.{ℕ_discrete}
use Rattle.std.specs.Int.Bits.{bit_xor}
use Rattle.algebra.specs.Ring.{Ring, ring, mul_comm, mul_left_comm}
use Rattle.algebra.specs.Tests.{at}
use Rattle.algebra.specs.Lists.{Filled, filled_none, filled_more}
use Rattle.algebra.specs.Sets.{count}
use Rattle.algebra.specs.Peel.{Places, Rep, Rep-add, Rep-same, Rep-one, pw, pw_zero, pw_suc}
use Rattle.algebra.specs.Horner.{pow, coef}
use Rattle.field.specs.Field.{modulus}
use Rattle.field.specs.Products.{product_one, product_below}
use Rattle.field.specs.Elements.{wide, prod, one_below, two_below, prod_small}
use Rattle.field.proofs.Elements.{K, known}
use Rattle.checks.specs.Roots.{spots}
use Rattle.decoder.specs.Places.{locator, spare}
use Rattle.decoder.specs.Peeling.{peeled_of, distance_of}
use Rattle.decoder.specs.Listing.{Listed}

-- the weight of coefficient k in the first power sum of a code whose roots begin at a^b
abbrev pub weight_of : ℕ → ℕ → ℕ → ℕ
weight_of m b k = pow (K m) (pow (K m) 2 b) k

-- w is the weight of the place whose locator is x
abbrev pub Weighs : ℕ → ℕ → ℕ → Type 0
Weighs b x w = (m k : ℕ) → x ≡ locator m k → w ≡ weight_of m b k

-- e is an element, and the error at place p where all errors are at flagged places: times the distance of p from the others, it is what
-- their peeling leaves
pub record ErrorAt (m n b : ℕ) (flags sums : List ℕ) (p e : ℕ) : Type 0 where
  pub small : e < 2 ^ wide m
  pub value : ¬ (K m).Z (distance_of m n flags p (weight_of m b (n - suc p))) → count (spare flags p n) n < 16
      → (K m).Z (bit_xor (prod m e (distance_of m n flags p (weight_of m b (n - suc p)))) (peeled_of m n flags p sums 0))

-- the same of listed places, whatever flags these are
abbrev pub ErrorListed : (m n b : ℕ) (places : List ℕ) (c : ℕ) (sums : List ℕ) (p e : ℕ) → Type 0
ErrorListed m n b places c sums p e = (flags : List ℕ) → Listed n flags c places → ErrorAt m n b flags sums p e

-- the power sums of one symbol: y, y x, y x^2, ..
unfoldable pub course : ℕ → ℕ → ℕ → ℕ → ℕ
course m y x zero = y
course m y x (suc j) = prod m x (course m y x j)

-- the power sums without those of one symbol
abbrev pub TakenOut : (m : ℕ) (rest : List ℕ) (y x : ℕ) (left : List ℕ) → Type 0
TakenOut m rest y x left = (j : ℕ) → j < 16 → at left j ≡ bit_xor (at rest j) (course m y x j)

module _ (m n b : ℕ) (flags sums before after : List ℕ) where
  -- place i is corrected
  pub record Fixed (i : ℕ) : Type 0 where
    pub error : ℕ
    pub right : ErrorAt m n b flags sums i error
    pub changed : at after i ≡ bit_xor (at before i) error

  -- the word after all flagged places are corrected, and its power sums, which follow from those of the word before
  pub record Corrected (left : List ℕ) : Type 0 where
    pub size : length after ≡ n
    pub kept : (i : ℕ) → i < n → ¬ (0 < at flags i) → at after i ≡ at before i
    pub fixed : (i : ℕ) → i < n → 0 < at flags i → Fixed i
    pub rest : (r : ℕ) → r ≤ 16 → Rep (K m) (spots m n b) r (λ j. at sums j) (coef (K m) before) → Rep (K m) (spots m n b) r (λ j. at left j) (coef (K m) after)

-- ---- over any ring

module _ (K : Ring) where
  infixl 65 ◌⊕◌
  infixl 70 ◌⊗◌
  open K use {F, ◌⊕◌, ◌⊗◌, 𝟘, 𝟙, Z, Z-zero, mul-one}

  -- y divided by d
  quotient : (y i d : F) → d ⊗ i ≡ 𝟙 → Z (y ⊗ i ⊗ d ⊕ y)
  quotient y i d e = let f : y ⊗ i ⊗ d ≡ y ⊗ (d ⊗ i) = simp ring in rw (f, e) (mul-one y)

  module _ (ℒ : Places K) where
    open ℒ use {n}

    -- a word that is changed by e at place p has the power sums changed by those of e
    Rep-change : (s p : ℕ) (e : F) (L M c d : ℕ → F) → p < n → d p ≡ c p ⊕ e → ((k : ℕ) → k < n → k ≢ p → d k ≡ c k)
        → ((j : ℕ) → j < s → M j ≡ L j ⊕ e ⊗ pw K ℒ j p) → Rep K ℒ s L c → Rep K ℒ s M d
    Rep-change s p e L M c d l f g h r j u =
        let t : d p ⊕ c p ≡ e = rw f (simp ring) in
        rw (h j u, ← t) (Rep-same K ℒ s (λ i. L i ⊕ (d p ⊕ c p) ⊗ pw K ℒ i p) d (λ k. c k ⊕ (d k ⊕ c k)) (λ k a. simp ring Z-zero)
        (Rep-add K ℒ s L (λ i. (d p ⊕ c p) ⊗ pw K ℒ i p) c (λ k. d k ⊕ c k) r (Rep-one K ℒ s p (λ k. d k ⊕ c k) l λ k a ne. rw (g k a ne) (simp ring Z-zero))) j u)

-- ---- the weight, where the roots begin at 1 or at a

module _ (m : ℕ) where
  one_prod : (x : ℕ) → x < 2 ^ wide m → prod m 1 x ≡ x
  one_prod x h = prod_small m 1 x (one_below (wide m) (known m)) h ∙ product_one (wide m) (modulus (wide m)) x (omega (arith, (known m).rules.room)) h

  ones : (k : ℕ) → pow (K m) 1 k ≡ 1
  unfolding pow
  ones zero = refl
  ones (suc k) = rw (ones k) (one_prod 1 (one_below (wide m) (known m)))

  power_one : pow (K m) 2 1 ≡ 2
  unfolding pow
  power_one = mul_comm (K m) 2 1 ∙ one_prod 2 (two_below (wide m) (known m))

pub weighs_zero : (b x : ℕ) → b ≡ 0 → Weighs b x 1
unfolding pow
weighs_zero b x e m k f = rw e (sym (ones m k))

pub weighs_one : (b x : ℕ) → b ≡ 1 → Weighs b x x
weighs_one b x e m k f = rw (e, power_one m) f

-- ---- the value at one place

pub error_at : {m n b p e : ℕ} {flags sums : List ℕ} (x w d y i : ℕ) → Weighs b x w → x ≡ locator m (n - suc p) → d ≡ distance_of m n flags p w
    → (count (spare flags p n) n < 16 → y ≡ peeled_of m n flags p sums 0) → (0 < d % 2 ^ wide m → prod m d i ≡ 1) → e ≡ prod m y i → ErrorAt m n b flags sums p e
error_at {m} {n} {b} {p} {e} {flags} x w d y i weighs ex ed ey ei ee =
    let f : d ≡ distance_of m n flags p (weight_of m b (n - suc p)) = ed ∙ ap (distance_of m n flags p) (weighs m (n - suc p) ex) in
    record {
      small = rw ee (product_below (wide m) (modulus (wide m)) (known m).rules.degree (y % 2 ^ wide m) (mod-lt i (pow_pos (wide m))));
      value = λ nz few. let h : d % 2 ^ wide m ≢ 0 = rw (← f) at nz in rw (← f, ← ey few, ee) (quotient (K m) y i d (ei (omega arith)));
    }

-- ---- taking one symbol out, half way

-- the first j sums are done, and the next term is at hand
pub record Taking (m : ℕ) (rest : List ℕ) (y x j term : ℕ) (left : List ℕ) : Type 0 where
  pub done : Filled 16 (λ i. bit_xor (at rest i) (course m y x i)) j left
  pub here : term ≡ course m y x j
  pub todo : (i : ℕ) → j ≤ i → at left i ≡ at rest i

module _ {m : ℕ} {rest : List ℕ} {y x : ℕ} where
  pub taking_start : length rest ≡ 16 → Taking m rest y x 0 y rest
  unfolding course
  taking_start e = record { done = filled_none 16 _ rest e; here = refl; todo = λ i h. refl }

  pub taking_turn : {j term next : ℕ} {left : List ℕ} → j < 16 → next ≡ prod m term x → Taking m rest y x j term left
      → Taking m rest y x (j + 1) next (set left j (bit_xor (at left j) term))
  unfolding course
  taking_turn {j} {term} {left = left} l e o = record {
    done = filled_more 16 _ j _ _ l (rw (o.here, o.todo j (omega arith))) o.done;
    here = rw (add-one, e, mul_comm (K m) term x, o.here);
    todo = λ i h. get_or-set_other left j i _ 0 (omega arith) ∙ o.todo i (omega arith);
  }

-- the power sums of a symbol e that is the coefficient k
course_pw : (m n b k e x y : ℕ) → x ≡ locator m k → y ≡ prod m e (weight_of m b k) → (j : ℕ) → course m y x j ≡ prod m e (pw (K m) (spots m n b) j k)
unfolding course
course_pw m n b k e x y f g zero = rw (pw_zero (K m) (spots m n b) k) g
course_pw m n b k e x y f g (suc j) = rw (course_pw m n b k e x y f g j, pw_suc (K m) (spots m n b) j k, f) (mul_left_comm (K m) _ e _)

-- ---- the correction, half way

-- the places before i are done, and the others as they were
pub record Correcting (m n b : ℕ) (flags sums before : List ℕ) (i : ℕ) (after left : List ℕ) : Type 0 where
  pub size : length after ≡ n
  pub todo : (k : ℕ) → i ≤ k → at after k ≡ at before k
  pub kept : (k : ℕ) → k < i → ¬ (0 < at flags k) → at after k ≡ at before k
  pub fixed : (k : ℕ) → k < i → 0 < at flags k → Fixed m n b flags sums before after k
  pub rest : (r : ℕ) → r ≤ 16 → Rep (K m) (spots m n b) r (λ j. at sums j) (coef (K m) before) → Rep (K m) (spots m n b) r (λ j. at left j) (coef (K m) after)

-- a word of n with e added to its place i
module _ (n : ℕ) (word : List ℕ) (i e : ℕ) (size : length word ≡ n) (l : i < n) where
  abbrev added : List ℕ
  added = set word i (bit_xor (at word i) e)

  added_size : length added ≡ n
  added_size = length-set word i (bit_xor (at word i) e) ∙ size

  added_other : (k : ℕ) → k ≢ i → at added k ≡ at word k
  added_other k ne = get_or-set_other word i k (bit_xor (at word i) e) 0 ne

  added_here : at added i ≡ bit_xor (at word i) e
  added_here = get_or-set_same word i (bit_xor (at word i) e) 0 (omega arith)

  added_sums : (m b r : ℕ) (L M : ℕ → ℕ) → ((j : ℕ) → j < r → M j ≡ bit_xor (L j) (prod m e (pw (K m) (spots m n b) j (n - suc i))))
      → Rep (K m) (spots m n b) r L (coef (K m) word) → Rep (K m) (spots m n b) r M (coef (K m) added)
  added_sums m b r L M h =
      let u : n - suc (n - suc i) ≡ i = omega arith in
      Rep-change (K m) (spots m n b) r (n - suc i) e L M (coef (K m) word) (coef (K m) added) (omega arith) (rw (added_size, size, u) added_here)
      (λ k a ne. rw (added_size, size) (added_other (n - suc k) (omega arith))) h

module _ {m n b : ℕ} {flags sums before : List ℕ} where
  module _ {i : ℕ} {after left : List ℕ} (l : i < n) (o : Correcting m n b flags sums before i after left) where
    pub correcting_pass : ¬ (0 < at flags i) → Correcting m n b flags sums before (i + 1) after left
    correcting_pass f = record {
      size = o.size;
      todo = λ k h. o.todo k (omega arith);
      kept = λ k h g. elim (ℕ_discrete k i) [ yes e ↦ o.todo k (omega arith) | no ne ↦ o.kept k (omega arith) g ];
      fixed = λ k h g. elim (ℕ_discrete k i) [ yes e ↦ absurd (f (rw e at g)) | no ne ↦ o.fixed k (omega arith) g ];
      rest = o.rest;
    }

    pub correcting_take : {x w y e : ℕ} {next : List ℕ} → 0 < at flags i → x ≡ locator m (n - suc i) → ErrorAt m n b flags sums i e → Weighs b x w → y ≡ prod m e w
        → TakenOut m left y x next → Correcting m n b flags sums before (i + 1) (set after i (bit_xor (at after i) e)) next
    correcting_take {x} {w} {y} {e} {next} f ex er ew ey taken = record {
      size = added_size n after i e o.size l;
      todo = λ k h. added_other n after i e o.size l k (omega arith) ∙ o.todo k (omega arith);
      kept = λ k h g. elim (ℕ_discrete k i) [ yes q ↦ absurd (g (rw q f)) | no ne ↦ added_other n after i e o.size l k ne ∙ o.kept k (omega arith) g ];
      fixed = λ k h g. elim (ℕ_discrete k i) [
        | yes q ↦ rw q (record { error = e; right = er; changed = added_here n after i e o.size l ∙ rw (o.todo i (omega arith)) })
        | no ne ↦ let d = o.fixed k (omega arith) g in record { error = d.error; right = d.right; changed = added_other n after i e o.size l k ne ∙ d.changed }
      ];
      rest = λ r few z. added_sums n after i e o.size l m b r (λ j. at left j) (λ j. at next j)
          (λ j h. taken j (omega arith) ∙ rw (course_pw m n b (n - suc i) e x y ex (rw (ew m (n - suc i) ex) at ey) j)) (o.rest r few z);
    }
