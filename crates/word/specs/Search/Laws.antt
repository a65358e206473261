-- What a search finds, and what it means that it finds nothing.
-- Assumes nothing.
use Rattle.std.specs.Prelude.{◌≡◌, refl, Bool, true, false, List, [], ◌∷◌, ℕ, zero, suc, ◌<◌, length, T, ltb, if◌then◌else◌}
use Rattle.std.proofs.Common.{ap, not-suc-le-zero, arith, lt→ltb, ltb→lt}
use Rattle.std.proofs.Math.Option.{Option, some, none, map}
use Rattle.std.proofs.Math.Decide.{ℕ_discrete}
use Rattle.algebra.specs.Tests.{below, both, and_left, and_right}
use Rattle.word.specs.Search.{or_else, first_of, search}

-- a find has P, and to find nothing shows N
abbrev pub Sound : (List ℕ → Type 0) → Type 0 → Option (List ℕ) → Type 0
Sound P N (some w) = P w
Sound P N none = N

or_else_sound : (P : List ℕ → Type 0) (A B C : Type 0) (a b : Option (List ℕ)) → (A → B → C) → Sound P A a → Sound P B b → Sound P C (or_else a b)
or_else_sound P A B C (some w) b f p q = p
or_else_sound P A B C none (some w) f p q = q
or_else_sound P A B C none none f p q = f p q

first_of_sound : (P : List ℕ → Type 0) (N : ℕ → Type 0) (q : ℕ) (f : ℕ → Option (List ℕ)) → ((x : ℕ) → x < q → Sound P (N x) (f x)) → Sound P ((x : ℕ) → x < q → N x) (first_of q f)
unfolding first_of
first_of_sound P N zero f h = λ x l. absurd (not-suc-le-zero l)
first_of_sound P N (suc q) f h =
    or_else_sound P ((x : ℕ) → x < q → N x) (N q) _ (first_of q f) (f q) (λ a b x l. elim (ℕ_discrete x q) [ yes e ↦ rw e b | no ne ↦ a x (omega arith) ])
    (first_of_sound P N q f λ x l. h x (omega arith)) (h q (omega arith))

-- n numbers below q that pass the test
pub record Passes (q n : ℕ) (test : List ℕ → Bool) (w : List ℕ) : Type 0 where
  pub size : length w ≡ n
  pub small : T (below q w)
  pub good : T (test w)

abbrev None : ℕ → ℕ → (List ℕ → Bool) → Type 0
None q n test = (w : List ℕ) → Passes q n test w → ⊥

if-sound : (b : Bool) (P : List ℕ → Type 0) (N : Type 0) (w : List ℕ) → (T b → P w) → ((T b → ⊥) → N) → Sound P N (if b then some w else none)
if-sound true P N w f g = f tt
if-sound false P N w f g = g (λ t. t)

empty : (q : ℕ) (test : List ℕ → Bool) (w : List ℕ) → Passes q 0 test w → T (test [])
empty q test [] p = p.good
empty q test (x ∷ w) p = absurd (let e = p.size in omega arith)

grow : (q n : ℕ) (test : List ℕ → Bool) (x : ℕ) → x < q → (o : Option (List ℕ)) → Sound (Passes q n (λ w. test (x ∷ w))) (None q n (λ w. test (x ∷ w))) o
    → Sound (Passes q (suc n) test) (None q n (λ w. test (x ∷ w))) (map (λ w. x ∷ w) o)
unfolding below
grow q n test x l none s = s
grow q n test x l (some w) s = record { size = ap suc s.size; small = both (ltb x q) (below q w) (lt→ltb x q l) s.small; good = s.good }

join : (q n : ℕ) (test : List ℕ → Bool) → ((x : ℕ) → x < q → None q n (λ w. test (x ∷ w))) → None q (suc n) test
unfolding below
join q n test h [] p = let e = p.size in omega arith
join q n test h (x ∷ w) p = h x (ltb→lt x q (and_left (ltb x q) (below q w) p.small)) w (record { size = (let e = p.size in omega arith); small = and_right (ltb x q) (below q w) p.small; good = p.good })

sound_map : (P : List ℕ → Type 0) (A B : Type 0) → (A → B) → (o : Option (List ℕ)) → Sound P A o → Sound P B o
sound_map P A B f (some w) s = s
sound_map P A B f none s = f s

pub search_sound : (q n : ℕ) (test : List ℕ → Bool) → Sound (Passes q n test) (None q n test) (search q n test)
unfolding search below
search_sound q zero test = if-sound (test []) (Passes q 0 test) (None q 0 test) [] (λ t. record { size = refl; small = tt; good = t }) (λ h w p. h (empty q test w p))
search_sound q (suc n) test =
    sound_map (Passes q (suc n) test) _ _ (join q n test) (search q (suc n) test) (first_of_sound (Passes q (suc n) test) (λ x. None q n (λ w. test (x ∷ w))) q (λ x. map (λ w. x ∷ w) (search q n λ w. test (x ∷ w)))
    λ x l. grow q n test x l (search q n λ w. test (x ∷ w)) (search_sound q n λ w. test (x ∷ w)))

-- the only one that passes is found
pub search_only : (q n : ℕ) (test : List ℕ → Bool) (w : List ℕ) → Passes q n test w → ((u : List ℕ) → Passes q n test u → u ≡ w) → search q n test ≡ some w
search_only q n test w p once = go (search q n test) (search_sound q n test)
  where
    go : (o : Option (List ℕ)) → Sound (Passes q n test) (None q n test) o → o ≡ some w
    go (some u) s = ap {B = Option (List ℕ)} some (once u s)
    go none s = absurd (s w p)

-- where none passes none is found
pub search_none : (q n : ℕ) (test : List ℕ → Bool) → ((u : List ℕ) → Passes q n test u → ⊥) → search q n test ≡ none
search_none q n test h = go (search q n test) (search_sound q n test)
  where
    go : (o : Option (List ℕ)) → Sound (Passes q n test) (None q n test) o → o ≡ none
    go (some u) s = absurd (h u s)
    go none s = refl
