-- A line of rings turned by one position, over any order of the rings, and the step rule (document 01, Delay line and Cross line).
-- `units j` says which ring branch j has; bytes and marks are two runs of the same machine, fresh with 0 and with 1.
-- Assumes nothing.
use Rattle.std.specs.Prelude.{◌≡◌, refl, ◌≢◌, List, T, length, replicate}
use Rattle.std.proofs.Common.{sym, ◌∙◌, not-suc-le-zero, add-mul, zero-mul, mod-lt, div-add-mod', lt_of_mul-lt-mul_right, add-one, arith, length-set, get_or-set_same, get_or-set_other}
use Rattle.std.proofs.Math.Path.{ap}
use Prim.Native.Nat.{ℕ, zero, suc, ◌+◌, ◌-◌, ◌*◌, ◌/◌, ◌%◌, ◌≤◌, ◌<◌, ◌∣◌}
use Rattle.std.proofs.Math.Nat.{suc-mod, zero-mod, add-mul-mod_self_right, add-mul-div_right, mod-mod_of_dvd}
use Rattle.std.proofs.Math.Decide.{ℕ_discrete, dec_lt}
use Rattle.std.proofs.Math.ListN.{get_or, set}
use Rattle.std.proofs.lemmas.List.{length-replicate, get_or-replicate}
use Rattle.algebra.specs.Tests.{below, below_set}
use Rattle.algebra.specs.Refusal.{if_zero}
use Rattle.rings.specs.Rings.{tri, ring, ring_out, ring_kept, pos_mul, ring_end, ring_apart, ring_turns, ring_again, ring_period}

-- a step of a line of I branches and unit M at position p: what comes out, and what stays
unfoldable pub line_out : (ℕ → ℕ) → ℕ → ℕ → List ℕ → ℕ → ℕ → ℕ
line_out units I M m p b = ring_out M (units (p % I)) (p / I) m b

unfoldable pub line_kept : (ℕ → ℕ) → ℕ → ℕ → List ℕ → ℕ → ℕ → List ℕ
line_kept units I M m p b = ring_kept M (units (p % I)) (p / I) m b

-- position and memory after s steps, fed f 0, f 1, .., and the answer at step s. P is the number of positions
unfoldable pub position : ℕ → ℕ → ℕ
position P zero = 0
position P (suc s) = (position P s + 1) % P

unfoldable pub memory : (ℕ → ℕ) → ℕ → ℕ → ℕ → ℕ → (ℕ → ℕ) → ℕ → List ℕ
memory units I M P d f zero = replicate (tri I * M) d
memory units I M P d f (suc s) = line_kept units I M (memory units I M P d f s) (position P s) (f s)

unfoldable pub answer : (ℕ → ℕ) → ℕ → ℕ → ℕ → ℕ → (ℕ → ℕ) → ℕ → ℕ
answer units I M P d f s = line_out units I M (memory units I M P d f s) (position P s) (f s)

-- x is what was put in D steps before step s, and d where that step is negative
pub record Past (f : ℕ → ℕ) (d D s x : ℕ) : Type 0 where
  pub early : s < D → x ≡ d
  pub due : (v : ℕ) → v + D ≡ s → x ≡ f v

-- what the numbers of a line must meet, so that the rings keep apart and the position says where each of them is
pub record Turns (units : ℕ → ℕ) (I M P : ℕ) : Type 0 where
  pub branches : 0 < I
  pub unit : 0 < M
  pub period : 0 < P
  pub small : (j : ℕ) → j < I → units j < I
  pub own : (i j : ℕ) → i < I → j < I → units i ≡ units j → i ≡ j
  pub each : I ∣ P
  pub whole : (j : ℕ) → j < I → 0 < units j → units j * M * I ∣ P

-- ---- laws

-- the rule leaves one answer only
pub past_once : (f : ℕ → ℕ) (d D s x y : ℕ) → Past f d D s x → Past f d D s y → x ≡ y
past_once f d D s x y p q = elim (dec_lt s D) [
  | yes h ↦ p.early h ∙ sym (q.early h)
  | no h ↦ let e : s - D + D ≡ s = omega arith in p.due (s - D) e ∙ sym (q.due (s - D) e)
]

pub position_is : (P s : ℕ) → 0 < P → position P s ≡ s % P
unfolding position
position_is P zero h = sym (zero-mod P)
position_is P (suc s) h = rw (position_is P s h, add-one) (sym (suc-mod s P))

stored_other : (k c e b : ℕ) (m : List ℕ) → (0 < k → e ≢ c) → get_or (if_zero k m (set m c b)) e 0 ≡ get_or m e 0
stored_other zero c e b m h = refl
stored_other (suc k) c e b m h = get_or-set_other m c e b 0 (h (omega arith))

stored_own : (k c b : ℕ) (m : List ℕ) → 0 < k → c < length m → get_or (if_zero k m (set m c b)) c 0 ≡ b
stored_own zero c b m h l = absurd (not-suc-le-zero h)
stored_own (suc k) c b m h l = get_or-set_same m c b 0 l

stored_length : (k c b : ℕ) (m : List ℕ) → length (if_zero k m (set m c b)) ≡ length m
stored_length zero c b m = refl
stored_length (suc k) c b m = length-set m c b

pub kept_length : (units : ℕ → ℕ) (I M : ℕ) (m : List ℕ) (p b : ℕ) → length (line_kept units I M m p b) ≡ length m
unfolding line_kept
kept_length units I M m p b = stored_length (units (p % I)) (ring M (units (p % I)) (p / I)) b m

-- a step leaves bytes below q, as it found them: 2 for marks
pub kept_below : (units : ℕ → ℕ) (I M q : ℕ) (m : List ℕ) (p b : ℕ) → T (below q m) → b < q → T (below q (line_kept units I M m p b))
unfolding line_kept
kept_below units I M q m p b t h = either_way (units (p % I)) _ (below_set q m _ b t h)
  where
    either_way : (k : ℕ) (x : List ℕ) → T (below q x) → T (below q (if_zero k m x))
    either_way zero x g = t
    either_way (suc k) x g = g

pub memory_length : (units : ℕ → ℕ) (I M P d : ℕ) (f : ℕ → ℕ) (s : ℕ) → length (memory units I M P d f s) ≡ tri I * M
unfolding memory
memory_length units I M P d f zero = length-replicate (tri I * M) d
memory_length units I M P d f (suc s) = kept_length units I M (memory units I M P d f s) (position P s) (f s) ∙ memory_length units I M P d f s

same_unless_zero : {A : Type 0} (k : ℕ) (a x y : A) → (0 < k → x ≡ y) → if_zero k a x ≡ if_zero k a y
same_unless_zero zero a x y h = refl
same_unless_zero (suc k) a x y h = h (omega arith)

first_factor : (a b c : ℕ) → 0 < a * b * c → 0 < a
first_factor zero b c h = absurd (not-suc-le-zero (rw (zero-mul, zero-mul) at h))
first_factor (suc a) b c h = omega arith

-- a branch without a ring gives its byte at once, as the rule has it for no delay
straight : (f : ℕ → ℕ) (d s x k M I : ℕ) → (0 < k → Past f d (k * M * I) s x) → Past f d (k * M * I) s (if_zero k (f s) x)
straight f d s x zero M I h =
    let e : 0 * M * I ≡ 0 = rw (zero-mul, zero-mul) in
    record { early = λ g. absurd (omega arith); due = λ v g. let x : s ≡ v = omega arith in ap f x }
straight f d s x (suc k) M I h = h (omega arith)

module _ (units : ℕ → ℕ) (I M P : ℕ) (t : Turns units I M P) where
  -- the ring and the cell of step s
  abbrev at : ℕ → ℕ
  at s = units (s % I)

  abbrev cell : ℕ → ℕ
  cell s = ring M (at s) (s / I)

  cell_own : (s u : ℕ) → u ≡ s + at u * M * I → (u % I ≡ s % I) × (cell u ≡ cell s)
  cell_own s u e =
      let j : u % I ≡ s % I = ap (λ (z : ℕ). z % I) e ∙ add-mul-mod_self_right s (at u * M) I in
      let q : u / I ≡ s / I + at u * M = ap (λ (z : ℕ). z / I) e ∙ add-mul-div_right s (at u * M) t.branches in
      (j, ap (ring M (at u)) q ∙ ring_again M (at u) (s / I) ∙ ap (λ (z : ℕ). ring M (units z) (s / I)) j)

  cell_apart : (s u : ℕ) → s < u → u < s + at u * M * I → 0 < at s → cell u ≢ cell s
  cell_apart s u h l k e = elim (ℕ_discrete (at u) (at s)) [
    | no g ↦ ring_apart M t.unit (at u) (at s) (u / I) (s / I) (first_factor (at u) M I (omega arith)) k g e
    | yes g ↦
        let j : u % I ≡ s % I = t.own (u % I) (s % I) (mod-lt u t.branches) (mod-lt s t.branches) g in
        ring_turns M (at u) (s / I) (u / I)
        (lt_of_mul-lt-mul_right I (omega (arith, div-add-mod' s I, div-add-mod' u I)))
        (lt_of_mul-lt-mul_right I (omega (arith, div-add-mod' s I, div-add-mod' u I, add-mul (s / I) (at u * M) I)))
        (sym (e ∙ ap (λ (z : ℕ). ring M z (s / I)) (sym g)))
  ]

  -- The invariant looks forward: for each step u still to come whose byte is in the line already, the cell of u holds that byte.
  record Holds (d : ℕ) (f : ℕ → ℕ) (s : ℕ) (m : List ℕ) : Type 0 where
    size : length m ≡ tri I * M
    cells : (u : ℕ) → s ≤ u → u < s + at u * M * I → Past f d (at u * M * I) u (get_or m (cell u) 0)

  cell_in : (u : ℕ) → 0 < at u → cell u < tri I * M
  cell_in u h = ring_end M t.unit (at u) I (u / I) h (t.small (u % I) (mod-lt u t.branches))

  holds_fresh : (d : ℕ) (f : ℕ → ℕ) → Holds d f 0 (replicate (tri I * M) d)
  holds_fresh d f = record {
    size = length-replicate (tri I * M) d;
    cells = λ u h l. record {
      early = λ _. get_or-replicate (tri I * M) (cell u) d 0 (cell_in u (first_factor (at u) M I (omega arith)));
      due = λ v e. absurd (omega arith);
    };
  }

  holds_next : (d : ℕ) (f : ℕ → ℕ) (s : ℕ) (m : List ℕ) → Holds d f s m → Holds d f (suc s) (if_zero (at s) m (set m (cell s) (f s)))
  holds_next d f s m p = record {
    size = stored_length (at s) (cell s) (f s) m ∙ p.size;
    cells = λ u h l. elim (dec_lt u (s + at u * M * I)) [
      | yes w ↦ rw (stored_other (at s) (cell s) (cell u) (f s) m (cell_apart s u h w)) (p.cells u (omega arith) w)
      | no w ↦
          let e : u ≡ s + at u * M * I = omega arith in
          let (j, c) = cell_own s u e in
          let k : 0 < at s = rw (ap units j) at (first_factor (at u) M I (omega arith)) in
          record {
            early = λ g. absurd (omega arith);
            due = λ v g.
                let x : s ≡ v = omega arith in
                ap (λ (z : ℕ). get_or (if_zero (at s) m (set m (cell s) (f s))) z 0) c ∙ stored_own (at s) (cell s) (f s) m k (rw p.size (cell_in s k)) ∙ ap f x;
          }
    ];
  }

  -- the position stands for the step number
  cell_at : (s : ℕ) → 0 < at s → ring M (at s) (s % P / I) ≡ cell s
  cell_at s h = ring_period M (at s) I P s t.branches (t.whole (s % I) (mod-lt s t.branches) h)

  pub kept_at : (m : List ℕ) (s b : ℕ) → line_kept units I M m (position P s) b ≡ if_zero (at s) m (set m (cell s) b)
  unfolding line_kept
  kept_at m s b = rw (position_is P s t.period, mod-mod_of_dvd I s t.each) (same_unless_zero (at s) m _ _ λ h. ap (λ (z : ℕ). set m z b) (cell_at s h))

  pub out_at : (m : List ℕ) (s b : ℕ) → line_out units I M m (position P s) b ≡ if_zero (at s) b (get_or m (cell s) 0)
  unfolding line_out
  out_at m s b = rw (position_is P s t.period, mod-mod_of_dvd I s t.each) (same_unless_zero (at s) b _ _ λ h. ap (λ (z : ℕ). get_or m z 0) (cell_at s h))

  holds : (d : ℕ) (f : ℕ → ℕ) (s : ℕ) → Holds d f s (memory units I M P d f s)
  unfolding memory
  holds d f zero = holds_fresh d f
  holds d f (suc s) = rw (kept_at (memory units I M P d f s) s (f s)) (holds_next d f s (memory units I M P d f s) (holds d f s))

  -- The step rule, for every step s.
  pub step_rule : (d : ℕ) (f : ℕ → ℕ) (s : ℕ) → Past f d (units (s % I) * M * I) s (answer units I M P d f s)
  unfolding answer
  step_rule d f s =
      rw (out_at (memory units I M P d f s) s (f s))
      (straight f d s (get_or (memory units I M P d f s) (cell s) 0) (at s) M I λ k. (holds d f s).cells s (omega arith) (omega (arith, pos_mul (at s * M) I (pos_mul (at s) M k t.unit) t.branches)))
