-- A run branch by branch: byte i of the run belongs to the branch that comes i % I after the first, and once all branches have had their turn
-- memory and bytes are those of the run step by step.
-- Assumes nothing.
use mathlib.Core.Path.{◌≡◌, refl, sym, ap, ◌∙◌}
use mathlib.Core.Logic.{◌≢◌}
use mathlib.Core.Bool.{Bool}
use mathlib.Core.List.{List}
use Prim.Native.Nat.{ℕ, zero, suc, ◌+◌, ◌*◌, ◌/◌, ◌%◌, ◌≤◌, ◌<◌, ◌∣◌}
use native.Mathlib.Nat.{not-suc-le-zero, add-zero, add-suc, mod-lt, mod-eq_of_lt, div-add-mod', dvd_trans, dvd-mul_left, one-dvd}
use native.Mathlib.Numerals.{add-one}
use native.Mathlib.Decide.{ℕ_discrete, dec_lt}
use native.Mathlib.Omega.{arith}
use lib.ListN.{length, get_or, set}
use lib.Seq.{set-get_or}
use Rattle.algebra.specs.Refusal.{if_zero}
use Rattle.rings.specs.Rings.{ring, order, order_small, order_own, ring_apart}
use Rattle.rings.specs.Delay.{Turns, position, position_is, kept_at, out_at}
use Rattle.rings.specs.Run.{RunFits, ran, run}
use Rattle.rings.specs.Branch.{Lent, lent, swapped, taken, walked}
use Rattle.rings.proofs.Steps.{other_branch, same_branch, next_branch, first_branch}
use Rattle.rings.proofs.Swaps.{taken_yes, taken_still, taken_same, branch_more}
use Rattle.rings.proofs.Passing.{Passing, passing_more, passing_end}

-- a swap as the run has it
swap_kept : (k c i : ℕ) (x : Lent) → let b = get_or x.bytes i 0 in swapped k c i x ≡ lent (if_zero k x.memory (set x.memory c b)) (set x.bytes i (if_zero k b (get_or x.memory c 0)))
swap_kept zero c i x = ap (λ (z : List ℕ). lent x.memory z) (sym (set-get_or x.bytes i 0))
swap_kept (suc k) c i x = refl

module _ (back : Bool) (I M s : ℕ) (m₀ bs₀ : List ℕ) where
  -- the ring and the cell of the run's byte i
  abbrev ring_of : ℕ → ℕ
  ring_of i = order back I ((s + i) % I)

  abbrev cell_of : ℕ → ℕ
  cell_of i = ring M (ring_of i) ((s + i) / I)

  -- the steps below n of the first `met` branches
  abbrev stepped : ℕ → ℕ → Lent
  stepped met n = taken (λ j. dec_lt (j % I) met) ring_of cell_of n (lent m₀ bs₀)

  -- i branches have had their turn, and these are the next one and its turn
  pub record Branches (branch q i : ℕ) (m bs : List ℕ) : Type 0 where
    pub exact : length m ≡ length m₀
    pub count : length bs ≡ length bs₀
    pub stands : branch ≡ (s + i) % I
    pub turn : q ≡ (s + i) / I
    pub done : lent m bs ≡ stepped i (length bs₀)

  pub branches_none : Branches (s % I) (s / I) 0 m₀ bs₀
  unfolding taken
  branches_none = record {
    exact = refl;
    count = refl;
    stands = rw add-zero;
    turn = rw add-zero;
    done = sym (taken_still _ _ _ 0 (length bs₀) (lent m₀ bs₀) (omega arith) λ j u v g. not-suc-le-zero g);
  }

module _ (back : Bool) (I M P s : ℕ) (m₀ bs₀ : List ℕ) (fits : RunFits I M P s (length m₀)) where
  abbrev rings : ℕ → ℕ
  rings = ring_of back I M s m₀ bs₀

  abbrev cells : ℕ → ℕ
  cells = cell_of back I M s m₀ bs₀

  abbrev after : ℕ → ℕ → Lent
  after = stepped back I M s m₀ bs₀

  some : 0 < I
  some = fits.branches.0

  -- the numbers of the run keep its rings apart, and its positions say where each of them is
  each_round : I ∣ P
  each_round = elim (dec_lt 1 I) [
    | yes h ↦ dvd_trans I (dvd-mul_left I (1 * M)) (fits.round 1 (omega arith) h)
    | no h ↦ let e : I ≡ 1 = omega (arith, some) in rw e (one-dvd P)
  ]

  all_turns : Turns (order back I) I M P
  all_turns = record {
    branches = some;
    unit = fits.unit.0;
    period = omega (arith, fits.place);
    small = order_small back I;
    own = order_own back I;
    each = each_round;
    whole = λ j h u. fits.round (order back I j) u (order_small back I j h);
  }

  -- steps of different branches share no cell
  apart : (i j : ℕ) → i % I ≢ j % I → 0 < rings i → 0 < rings j → cells i ≢ cells j
  apart i j ne h u =
      ring_apart M fits.unit.0 (rings i) (rings j) ((s + i) / I) ((s + j) / I) h u λ e.
      other_branch I s i j some ne (order_own back I ((s + i) % I) ((s + j) % I) (mod-lt (s + i) some) (mod-lt (s + j) some) e)

  -- a walk is what the run does on its branch
  own_steps : (i : ℕ) (m bs : List ℕ) → walked M (rings i) ((s + i) / I) I i m bs ≡ taken (λ j. ℕ_discrete (j % I) i) rings cells (length bs) (lent m bs)
  unfolding walked
  own_steps i m bs = taken_same _ _ _ rings cells (length bs) (lent m bs) λ j e.
      let (branch, turn) = same_branch I s i j (j / I) some (omega (arith, div-add-mod' j I)) in
      (rw branch refl, rw (branch, turn) refl)

  module _ (branch q i : ℕ) (m bs later left : List ℕ) (p : Branches back I M s m₀ bs₀ branch q i m bs) where
    -- one more branch has taken its steps, and the next one is at hand, or the first and a turn later
    walk_done : lent later left ≡ walked M (order back I branch) q I i m bs → lent later left ≡ after (i + 1) (length bs₀)
    walk_done e =
        let own : walked M (order back I branch) q I i m bs ≡ taken (λ j. ℕ_discrete (j % I) i) rings cells (length bs) (lent m bs) = rw (p.stands, p.turn) (own_steps i m bs) in
        e ∙ own ∙ rw (p.count, p.done) (branch_more I rings cells apart i (lent m₀ bs₀) (length bs₀))

    pub branches_more : lent later left ≡ walked M (order back I branch) q I i m bs → length later ≡ length m → length left ≡ length bs → branch + 1 ≢ I
        → Branches back I M s m₀ bs₀ (branch + 1) q (i + 1) later left
    branches_more e x n h =
        let (b, t) = next_branch I (s + i) (s + (i + 1)) some (omega arith) (rw p.stands at h) in
        record { exact = x ∙ p.exact; count = n ∙ p.count; stands = rw p.stands (sym b); turn = p.turn ∙ sym t; done = walk_done e }

    pub branches_round : lent later left ≡ walked M (order back I branch) q I i m bs → length later ≡ length m → length left ≡ length bs → branch + 1 ≡ I
        → Branches back I M s m₀ bs₀ 0 (q + 1) (i + 1) later left
    branches_round e x n h =
        let (b, t) = first_branch I (s + i) (s + (i + 1)) some (omega arith) (rw p.stands at h) in
        record { exact = x ∙ p.exact; count = n ∙ p.count; stands = sym b; turn = rw p.turn (sym t); done = walk_done e }

  -- the steps one after the other, where each branch has had its turn
  module _ (met : ℕ) (all : (j : ℕ) → j < length bs₀ → j % I < met) where
    abbrev Passed : ℕ → Type 0
    Passed i =
        Passing (order back I) I M P (run (order back I) I M P s m₀ bs₀) (length m₀) (length bs₀) i (position P (s + i)) (after met i).memory (after met i).bytes

    passed_more : (i : ℕ) → i < length bs₀ → Passed i → Passed (suc i)
    unfolding position
    passed_more i h p =
        let x = after met i in
        let b : ℕ = get_or x.bytes i 0 in
        let next = taken_yes (λ j. dec_lt (j % I) met) rings cells i (lent m₀ bs₀) (all i h) ∙ swap_kept (rings i) (cells i) i x in
        rw (next, add-suc s i, ← add-one i)
        (passing_more (order back I) I M P _ _ _ i (position P (s + i)) x.memory x.bytes _ _ h
        (sym (out_at (order back I) I M P all_turns x.memory (s + i) b)) (sym (kept_at (order back I) I M P all_turns x.memory (s + i) b)) p)

    passed : (i : ℕ) → i ≤ length bs₀ → Passed i
    unfolding taken
    passed zero h =
        let e : position P (s + 0) ≡ s = ap (position P) (add-zero s) ∙ position_is P s all_turns.period ∙ mod-eq_of_lt fits.place in
        rw e (record { place = fits.place; exact = refl; count = refl; rest = refl })
    passed (suc i) h = passed_more i (omega arith) (passed i (omega arith))

  -- the first branches of the run, where no byte belongs to another
  pub branches_all : (branch q i r : ℕ) (m bs : List ℕ) → ((j : ℕ) → j < length bs₀ → j % I < i) → r ≡ (s + length bs₀) % P → Branches back I M s m₀ bs₀ branch q i m bs
      → ran bs m r ≡ run (order back I) I M P s m₀ bs₀
  branches_all branch q i r m bs all e p =
      let end = passing_end (order back I) I M P _ _ _ _ _ _ _ (omega arith) (passed i all (length bs₀) (omega arith)) in
      rw (e, ← position_is P (s + length bs₀) all_turns.period) (ap (λ (z : Lent). ran z.bytes z.memory (position P (s + length bs₀))) p.done ∙ end)
