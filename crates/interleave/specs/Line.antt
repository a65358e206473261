-- The delay line's sender and receiver (document 01, Delay line): how many positions, the step rule of each, and a byte's way from end to end.
-- Assumes nothing.
use Rattle.std.specs.Prelude.{◌≡◌, refl, Bool, true, false, List, [], ◌∷◌, ℕ, zero, suc, ◌+◌, ◌-◌, ◌*◌, ◌%◌, ◌≤◌, ◌<◌, T, eqb, leb, get_or}
use Rattle.std.proofs.Common.{sym, ap, ◌∙◌, not-suc-le-zero, add-mul, mod-lt, mod-eq_of_lt, arith, eqb→eq, leb→le}
use Rattle.std.specs.Int.{◌∣◌}
use Rattle.std.proofs.Math.Nat.{dvd_of_mod-eq-zero, mul-dvd-mul_right, dvd-mul_left, add-mul-mod_self_right}
use Rattle.std.proofs.Math.Decide.{dec_lt}
use Rattle.algebra.specs.Tests.{each, each_at}
use Rattle.rings.specs.Rings.{order, order_small, order_own, pos_mul}
use Rattle.rings.specs.Delay.{Turns, Past, answer, step_rule, position, position_is}

-- at I, the least number that each of 1 to I - 1 divides; from 14 on it is 360360, as far as lines go
abbrev pub commons : List ℕ
commons = 1 ∷ 1 ∷ 1 ∷ 2 ∷ 6 ∷ 12 ∷ 60 ∷ 60 ∷ 420 ∷ 840 ∷ 2520 ∷ 2520 ∷ 27720 ∷ 27720 ∷ []

unfoldable pub common : ℕ → ℕ
common I = get_or commons I 360360

-- the number of positions: after so many steps every ring is where it was
unfoldable pub period : ℕ → ℕ → ℕ
period I M = common I * M * I

-- what the sender gives at step s, fed f 0, f 1, .., and what the receiver gives, fed g: d is 0 for bytes, 1 for marks
abbrev pub sent : ℕ → ℕ → (ℕ → ℕ) → ℕ → ℕ
sent I M f s = answer (order false I) I M (period I M) 0 f s

abbrev pub received : ℕ → ℕ → ℕ → (ℕ → ℕ) → ℕ → ℕ
received I M d g s = answer (order true I) I M (period I M) d g s

-- ---- the table of common multiples, tested once as a whole

-- each of 1 to I - 1 divides c
divided : ℕ → ℕ → Bool
divided I c = each (I - 1) λ k. eqb (c % suc k) 0

common_divided : (I : ℕ) → I < 17 → T (divided I (common I))
unfolding divided each common
common_divided I h = each_at 17 (λ i. divided i (common i)) tt I h

common_pos : (I : ℕ) → I < 17 → 0 < common I
unfolding each common
common_pos I h = leb→le 1 (common I) (each_at 17 (λ i. leb 1 (common i)) tt I h)

pub common_most : (I : ℕ) → I < 17 → common I ≤ 360360
unfolding each common
common_most I h = leb→le (common I) 360360 (each_at 17 (λ i. leb (common i) 360360) tt I h)

common_all : (I : ℕ) → I < 17 → (k : ℕ) → 0 < k → k < I → k ∣ common I
unfolding divided
common_all I h zero l u = absurd (not-suc-le-zero l)
common_all I h (suc k) l u =
    dvd_of_mod-eq-zero (suc k) (eqb→eq (common I % suc k) 0 (each_at (I - 1) (λ i. eqb (common I % suc i) 0) (common_divided I h) k (omega arith)))

-- ---- laws

-- a ring of k units comes round in k * M * I steps, which divide the positions c * M * I where k divides c
pub rounds : (I M c k : ℕ) → k ∣ c → k * M * I ∣ c * M * I
rounds I M c k d = mul-dvd-mul_right (k * M) (mul-dvd-mul_right k d M) I

-- any order of the rings, with a period that every ring divides
pub turns_by : (I M c : ℕ) (units : ℕ → ℕ) → 0 < I → 0 < M → 0 < c → ((k : ℕ) → 0 < k → k < I → k ∣ c)
    → ((j : ℕ) → j < I → units j < I) → ((i j : ℕ) → i < I → j < I → units i ≡ units j → i ≡ j) → Turns units I M (c * M * I)
turns_by I M c units i m h d small own = record {
  branches = i;
  unit = m;
  period = pos_mul (c * M) I (pos_mul c M h m) i;
  small = small;
  own = own;
  each = dvd-mul_left I (c * M);
  whole = λ j u k. rounds I M c (units j) (d (units j) k (small j u));
}

pub period_round : (I M : ℕ) → I ≤ 16 → (k : ℕ) → 0 < k → k < I → k * M * I ∣ period I M
unfolding period
period_round I M h k l u = rounds I M (common I) k (common_all I (omega arith) k l u)

delays_add : (a b c M I : ℕ) → a + b ≡ c → a * M * I + b * M * I ≡ c * M * I
delays_add a b c M I e = sym (add-mul (a * M) (b * M) I) ∙ ap (λ (z : ℕ). z * I) (sym (add-mul a b M) ∙ ap (λ (z : ℕ). z * M) e)

module _ (I M : ℕ) (two : 2 ≤ I) (largest : I ≤ 16) (unit : 1 ≤ M) where
  period_pos : 0 < period I M
  unfolding period
  period_pos = pos_mul (common I * M) I (pos_mul (common I) M (common_pos I (omega arith)) unit) (omega arith)

  some_branch : 0 < I
  some_branch = omega arith

  -- The step rule of either: at step s the line gives what was put in at step s - k * M * I, k the units of branch s % I, or d where that is negative.
  line_rule : (back : Bool) (d : ℕ) (f : ℕ → ℕ) (s : ℕ) → Past f d (order back I (s % I) * M * I) s (answer (order back I) I M (period I M) d f s)
  unfolding period
  line_rule back d f s =
      step_rule (order back I) I M (common I * M * I)
      (turns_by I M (common I) (order back I) some_branch unit (common_pos I (omega arith)) (common_all I (omega arith)) (order_small back I) (order_own back I)) d f s

  -- Some number of steps reaches a position exactly where it is below the period.
  pub reached : (p : ℕ) → p < period I M → position (period I M) p ≡ p
  reached p h = position_is (period I M) p period_pos ∙ mod-eq_of_lt h

  pub reachable : (s : ℕ) → position (period I M) s < period I M
  reachable s = rw (position_is (period I M) s period_pos) (mod-lt s period_pos)

  -- The step rule: at step s the sender gives the byte put in at step s - j * M * I, j = s % I, or 0 where that is negative.
  pub sender_rule : (f : ℕ → ℕ) (s : ℕ) → Past f 0 (s % I * M * I) s (sent I M f s)
  sender_rule f s = line_rule false 0 f s

  -- The receiver gives the byte, and the mark, put in at step s - (I - 1 - j) * M * I; where that is negative 0, marked 1.
  pub receiver_rule : (d : ℕ) (g : ℕ → ℕ) (s : ℕ) → Past g d ((I - 1 - s % I) * M * I) s (received I M d g s)
  receiver_rule d g s = line_rule true d g s

  -- the slot that carries the byte put in at step v
  pub carried : (f : ℕ → ℕ) (v : ℕ) → sent I M f (v + v % I * M * I) ≡ f v
  carried f v = (sender_rule f (v + v % I * M * I)).due v (rw (add-mul-mod_self_right v (v % I * M) I) refl)

  -- what the receiver, fed any slots, answers in the end for the byte put in at step v
  pub delivered : (d : ℕ) (g : ℕ → ℕ) (v : ℕ) → received I M d g (v + (I - 1) * M * I) ≡ g (v + v % I * M * I)
  delivered d g v = (receiver_rule d g (v + (I - 1) * M * I)).due (v + v % I * M * I)
      (rw (add-mul-mod_self_right v ((I - 1) * M) I) (omega (arith, delays_add (v % I) (I - 1 - v % I) (I - 1) M I (omega (arith, mod-lt v some_branch)))))

  early_zero : (f : ℕ → ℕ) (s : ℕ) → s < (I - 1) * M * I → received I M 0 (sent I M f) s ≡ 0
  early_zero f s h =
      let j : s % I ≤ I - 1 = omega (arith, mod-lt s some_branch) in
      let D : ℕ = (I - 1 - s % I) * M * I in
      let sum : s % I * M * I + D ≡ (I - 1) * M * I = delays_add (s % I) (I - 1 - s % I) (I - 1) M I (omega arith) in
      elim (dec_lt s D) [
        | yes l ↦ (receiver_rule 0 (sent I M f) s).early l
        | no l ↦
            let e : s - D + D ≡ s = omega arith in
            let b : (s - D) % I ≡ s % I = sym (add-mul-mod_self_right (s - D) ((I - 1 - s % I) * M) I) ∙ ap (λ (z : ℕ). z % I) e in
            (receiver_rule 0 (sent I M f) s).due (s - D) e ∙ (sender_rule f (s - D)).early (rw b (omega arith))
      ]

  -- Sender and receiver together are one delay: a byte put in at step v leaves the receiver after step v + (I - 1) * M * I, neither sooner nor later.
  pub end_to_end : (f : ℕ → ℕ) (s : ℕ) → Past f 0 ((I - 1) * M * I) s (received I M 0 (sent I M f) s)
  end_to_end f s = record { early = early_zero f s; due = λ v e. rw (← e) (delivered 0 (sent I M f) v ∙ carried f v) }
