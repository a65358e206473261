-- Document 01, "Word code": a setting and its limits.
-- Assumes nothing.
use Rattle.std.specs.Prelude.{◌≡◌, refl, Bool, true, false, ◌&&◌, List, ℕ, ◌-◌, ◌^◌, ◌≤◌, ◌<◌, T, leb, ltb}
use Rattle.std.proofs.Common.{sym, ap, ◌∙◌, arith, leb→le, ltb→lt, ne_eqb, le-leb, lt-ltb}
use Rattle.std.proofs.Math.Decide.{ℕ_discrete}
use Rattle.algebra.specs.Tests.{below, and_left, and_right, passed}
use Rattle.field.specs.Answers.{is_field}
use Rattle.field.specs.Elements.{wide, wide_3, wide_8}
use Rattle.word.specs.declared.Setting.{Setting}

-- m is 3 or 8; r is 2 to 16; n is r + 1 to 2^m - 1; b is 0 or 1
unfoldable pub allowed : Setting → Bool
allowed s = is_field s.m && leb 2 s.r && leb s.r 16 && ltb s.r s.n && ltb s.n (2 ^ s.m) && leb s.b 1

-- k, the message symbols of a word
abbrev pub message_size : Setting → ℕ
message_size s = s.n - s.r

-- ---- the limits, read from the test

pub record Allowed (s : Setting) : Type 0 where
  pub field : T (is_field s.m)
  pub low : 2 ≤ s.r
  pub high : s.r ≤ 16
  pub room : s.r < s.n
  pub short : s.n < 2 ^ s.m
  pub start : s.b ≤ 1

pub limits : (s : Setting) → T (allowed s) → Allowed s
unfolding allowed
limits s t =
    let f : Bool = is_field s.m in
    let a : Bool = leb 2 s.r in
    let b : Bool = leb s.r 16 in
    let c : Bool = ltb s.r s.n in
    let d : Bool = ltb s.n (2 ^ s.m) in
    let e : Bool = leb s.b 1 in
    let t4 : T (f && a && b && c && d) = and_left (f && a && b && c && d) e t in
    let t3 : T (f && a && b && c) = and_left (f && a && b && c) d t4 in
    let t2 : T (f && a && b) = and_left (f && a && b) c t3 in
    record {
      field = and_left f a (and_left (f && a) b t2);
      low = leb→le _ _ (and_right f a (and_left (f && a) b t2));
      high = leb→le _ _ (and_right (f && a) b t2);
      room = ltb→lt _ _ (and_right (f && a && b) c t3);
      short = ltb→lt _ _ (and_right (f && a && b && c) d t4);
      start = leb→le _ _ (and_right (f && a && b && c && d) e t);
    }

pub allowed_yes : (s : Setting) → Allowed s → true ≡ allowed s
unfolding allowed
allowed_yes s a =
    rw (passed (is_field s.m) a.field, le-leb 2 s.r a.low, le-leb s.r 16 a.high, lt-ltb s.r s.n a.room, lt-ltb s.n (2 ^ s.m) a.short, le-leb s.b 1 a.start)

pub allowed_no : (s : Setting) → (Allowed s → ⊥) → false ≡ allowed s
allowed_no s h = go (allowed s) refl
  where
    go : (b : Bool) → allowed s ≡ b → false ≡ b
    go true e = absurd (h (limits s (rw e tt)))
    go false e = refl

-- an m that is allowed names its own field
pub named : (m : ℕ) → T (is_field m) → wide m ≡ m
unfolding is_field
named m t = elim (ℕ_discrete m 3) [
  | yes e ↦ wide_3 m e ∙ sym e
  | no ne ↦ wide_8 m ne ∙ elim (ℕ_discrete m 8) [
    | yes e ↦ sym e
    | no nf ↦ absurd (rw (ne_eqb m 3 ne, ne_eqb m 8 nf) at t)
  ]
]

-- the test, with the number of symbols as the code counts it
pub allowed_by : (s : Setting) (q : ℕ) → q ≡ 2 ^ wide s.m → allowed s ≡ (is_field s.m && leb 2 s.r && leb s.r 16 && ltb s.r s.n && ltb s.n q && leb s.b 1)
unfolding allowed
allowed_by s q e = go (is_field s.m) refl
  where
    go : (f : Bool) → is_field s.m ≡ f → (is_field s.m && leb 2 s.r && leb s.r 16 && ltb s.r s.n && ltb s.n (2 ^ s.m) && leb s.b 1) ≡ (is_field s.m && leb 2 s.r && leb s.r 16 && ltb s.r s.n && ltb s.n q && leb s.b 1)
    go true h = rw (e, named s.m (rw h tt))
    go false h = rw h

-- so no word has more than 255 symbols
pub at_most : (s : Setting) → Allowed s → s.n ≤ 255
at_most s a = elim (ℕ_discrete s.m 3) [
  | yes e ↦ let short : s.n < 2 ^ 3 = rw e at a.short in omega arith
  | no ne ↦
      let e : s.m ≡ 8 = sym (named s.m a.field) ∙ wide_8 s.m ne in
      let short : s.n < 2 ^ 8 = rw e at a.short in
      omega arith
]

-- the limits that a call needs, one by one, for a tactic to find
pub has_room : (s : Setting) → T (allowed s) → s.r < s.n
has_room s ok = (limits s ok).room

pub most_places : (s : Setting) → T (allowed s) → s.n ≤ 255
most_places s ok = at_most s (limits s ok)

pub most_checks : (s : Setting) → T (allowed s) → s.r ≤ 16
most_checks s ok = (limits s ok).high

pub low_start : (s : Setting) → T (allowed s) → s.b ≤ 1
low_start s ok = (limits s ok).start

pub ruleset in_limits = (has_room, most_places, most_checks, low_start)

-- a test of symbols against the code's count of them is the paper's
pub own_symbols : (s : Setting) → T (allowed s) → (q : ℕ) (w : List ℕ) → q ≡ 2 ^ wide s.m → below q w ≡ below (2 ^ s.m) w
own_symbols s ok q w e = ap (λ (k : ℕ). below k w) (e ∙ ap (λ (k : ℕ). 2 ^ k) (named s.m (limits s ok).field))
