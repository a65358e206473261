-- Document 01, "Word code": a codeword is a word that is zero at a^b, a^(b + 1), .., a^(b + r - 1); one qualifies for a received word
-- where 2e + f ≤ r.
-- Assumes nothing.
use Rattle.std.specs.Prelude.{◌≡◌, Bool, ◌&&◌, List, ℕ, ◌+◌, ◌*◌, ◌^◌, ◌≤◌, ◌<◌, length, T, eqb, leb}
use Rattle.std.proofs.Common.{sym, subst, eqb→eq, leb→le, le→leb}
use Rattle.std.proofs.Math.Dec.{eqb_refl}
use Rattle.algebra.specs.Tests.{each, below, both, and_left, and_right, each_at, each_all}
use Rattle.field.specs.Field.{a^}
use Rattle.word.specs.Word.{value, errors, marked}
use Rattle.word.specs.declared.Setting.{Setting}

-- n symbols, zero at each of the r roots
unfoldable pub is_codeword : Setting → List ℕ → Bool
is_codeword s w = eqb (length w) s.n && below (2 ^ s.m) w && each s.r λ j. eqb (value s.m w (a^ s.m (s.b + j))) 0

-- a codeword with 2e + f ≤ r
unfoldable pub qualifies : Setting → List ℕ → List ℕ → List ℕ → Bool
qualifies s marks received c = is_codeword s c && leb (2 * errors marks received c + marked marks received) s.r

-- ---- what the tests say

pub record Codeword (s : Setting) (w : List ℕ) : Type 0 where
  pub size : length w ≡ s.n
  pub small : T (below (2 ^ s.m) w)
  pub zeros : (j : ℕ) → j < s.r → value s.m w (a^ s.m (s.b + j)) ≡ 0

pub codeword : (s : Setting) (w : List ℕ) → T (is_codeword s w) → Codeword s w
unfolding is_codeword
codeword s w t =
    let a : Bool = eqb (length w) s.n in
    let b : Bool = below (2 ^ s.m) w in
    let z : ℕ → Bool = λ j. eqb (value s.m w (a^ s.m (s.b + j))) 0 in
    record {
      size = eqb→eq _ _ (and_left a b (and_left (a && b) (each s.r z) t));
      small = and_right a b (and_left (a && b) (each s.r z) t);
      zeros = λ j l. eqb→eq _ _ (each_at s.r z (and_right (a && b) (each s.r z) t) j l);
    }

pub is_codeword_lem : (s : Setting) (w : List ℕ) → Codeword s w → T (is_codeword s w)
unfolding is_codeword
is_codeword_lem s w c =
    let a : Bool = eqb (length w) s.n in
    let b : Bool = below (2 ^ s.m) w in
    let z : ℕ → Bool = λ j. eqb (value s.m w (a^ s.m (s.b + j))) 0 in
    both (a && b) (each s.r z) (both a b (subst (λ (k : ℕ). T (eqb (length w) k)) c.size (eqb_refl (length w))) c.small)
    (each_all s.r z λ j l. subst (λ (k : ℕ). T (eqb k 0)) (sym (c.zeros j l)) tt)

pub record InReach (s : Setting) (marks received w : List ℕ) : Type 0 where
  pub code : Codeword s w
  pub bound : 2 * errors marks received w + marked marks received ≤ s.r

pub in_reach : (s : Setting) (marks received w : List ℕ) → T (qualifies s marks received w) → InReach s marks received w
unfolding qualifies
in_reach s marks received w t =
    let b : Bool = leb (2 * errors marks received w + marked marks received) s.r in
    record { code = codeword s w (and_left (is_codeword s w) b t); bound = leb→le _ _ (and_right (is_codeword s w) b t) }

pub is_in_reach : (s : Setting) (marks received w : List ℕ) → InReach s marks received w → T (qualifies s marks received w)
unfolding qualifies
is_in_reach s marks received w n = both (is_codeword s w) _ (is_codeword_lem s w n.code) (le→leb _ _ n.bound)
