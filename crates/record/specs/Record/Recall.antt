-- What the memory means, for frames that a sender numbers on without end: its entry at distance d is set exactly if frame top - d was
-- accepted, where top is the newest frame. So a late copy is told from a second one.
-- Assumes nothing.
use Rattle.std.specs.Prelude.{◌≡◌, ℕ, ◌+◌, ◌-◌, ◌%◌, ◌<◌, ◌≤◌, max, Bool, true, false, ◌&&◌, ◌||◌, ◌≢◌, List, [], ◌∷◌, map, ◌==◌, nat_eq, nat_le, nat_lt, refl, if◌then◌else◌}
use Rattle.std.proofs.Common.{sym, ap, ◌∙◌, subst, arith, eq-eqb, ne_eqb, lt-ltb, le-ltb, le-leb}
use Rattle.std.proofs.Math.Bool.{or-true, or-false, or_assoc}
use Rattle.std.proofs.Math.Decide.{ℕ_discrete, dec_lt, dec_le}
use Rattle.std.proofs.lemmas.Bool.{lt-leb}
use Rattle.record.specs.Memory.{seen_at, seeing, slid}
use Rattle.record.specs.Memory.Laws.{none_seen, seeing_there, seeing_elsewhere, slid_near, slid_last, slid_far}
use Rattle.record.specs.Order.{lag}
use Rattle.record.specs.Order.Laws.{by_order, lead_true, lag_true}
use Rattle.record.specs.Record.{memory_after, counted_as, lost_after, behind_by, kind_of, noted}
use Rattle.record.specs.Record.Laws.{by_memory, memory_again, memory_first, standing_first, noted_accepted}
use Rattle.record.specs.Record.History.{Heard, after, is_accepted, carried, higher, highest, Paced, Stands, stands_step, stands_first, true_kind, judged, late_copy}
use Rattle.record.specs.declared.Record.{Record}
use Rattle.record.specs.declared.Kind.TheVariants.{Repeat, Older, Late}

-- whether frame t is among the accepted ones
unfoldable pub accepts : List Heard → ℕ → Bool
accepts [] t = false
accepts (a ∷ rest) t = (is_accepted a && a.sequence == t) || accepts rest t

-- whether the frame at distance d below `top` was accepted; there is none below frame 0
abbrev pub accepted_below : (ℕ → Bool) → ℕ → ℕ → Bool
accepted_below past top d = nat_le d top && past (top - d)

-- with `top` the newest frame of `past`, the memory holds those below it
pub record Recalls (memory top : ℕ) (past : ℕ → Bool) : Type 0 where
  pub newest : past top ≡ true
  pub none_above : (t : ℕ) → top < t → past t ≡ false
  pub entries : (d : ℕ) → 1 ≤ d → d ≤ 32 → seen_at memory d ≡ accepted_below past top d

-- ---- one more frame

-- those of `past`, and frame t
abbrev with : (ℕ → Bool) → ℕ → ℕ → Bool
with past t x = past x || t == x

module _ (past : ℕ → Bool) (t : ℕ) where
  with_itself : with past t t ≡ true
  with_itself = rw (eq-eqb t t refl) (or-true (past t))

  with_other : (x : ℕ) → t ≢ x → with past t x ≡ past x
  with_other x n = rw (ne_eqb t x n) (or-false (past x))

  -- at another distance frame t changes nothing
  below_other : (top d : ℕ) → (d ≤ top → t ≢ top - d) → accepted_below (with past t) top d ≡ accepted_below past top d
  below_other top d n = elim (dec_le d top) [
    | yes l ↦ rw (le-leb d top l) (with_other (top - d) (n l))
    | no m ↦ rw (lt-leb d top (omega arith))
  ]

  below_itself : (top d : ℕ) → d ≤ top → t ≡ top - d → accepted_below (with past t) top d ≡ true
  below_itself top d l e = rw (le-leb d top l, ← e) with_itself

-- a frame at or below the newest: whatever becomes of the memory, it must show that frame, and the others as they were
below_newest : (memory next top t : ℕ) (past : ℕ → Bool) → t ≤ top → Recalls memory top past
    → ((d : ℕ) → 1 ≤ d → d ≤ 32 → t + d ≡ top → seen_at next d ≡ true)
    → ((d : ℕ) → 1 ≤ d → d ≤ 32 → t + d ≢ top → seen_at next d ≡ seen_at memory d)
    → Recalls next top (with past t)
below_newest memory next top t past l m there elsewhere = record {
  newest = rw m.newest;
  none_above = λ x a. with_other past t x (λ e. absurd (omega arith)) ∙ m.none_above x a;
  entries = λ d a b. elim (ℕ_discrete (t + d) top) [
    | yes e ↦ there d a b e ∙ sym (below_itself past t top d (omega arith) (omega arith))
    | no n ↦ elsewhere d a b n ∙ m.entries d a b ∙ sym (below_other past t top d (λ k e. n (omega arith)))
  ];
}

-- a frame ahead of the newest by a step
above_newest : (memory top step : ℕ) (past : ℕ → Bool) → 1 ≤ step → Recalls memory top past → Recalls (slid memory step) (top + step) (with past (top + step))
above_newest memory top step past l m = record {
  newest = with_itself past (top + step);
  none_above = λ x a. with_other past (top + step) x (λ e. absurd (omega arith)) ∙ m.none_above x (omega arith);
  entries = λ d a b. by_place d a b;
}
  where
    passed_over : (d : ℕ) → 1 ≤ d → d < step → accepted_below past (top + step) d ≡ false
    passed_over d a k = rw (le-leb d (top + step) (omega arith)) (m.none_above (top + step - d) (omega arith))

    old_newest : accepted_below past (top + step) step ≡ true
    old_newest = let e : top + step - step ≡ top = omega arith in rw (le-leb step (top + step) (omega arith), e) m.newest

    old_entry : (d : ℕ) → step < d → accepted_below past (top + step) d ≡ accepted_below past top (d - step)
    old_entry d k = elim (dec_le d (top + step)) [
      | yes g ↦ let e : top + step - d ≡ top - (d - step) = omega arith in rw (le-leb d (top + step) g, le-leb (d - step) top (omega arith), e)
      | no g ↦ rw (lt-leb d (top + step) (omega arith), lt-leb (d - step) top (omega arith))
    ]

    as_it_was : (d : ℕ) → 1 ≤ d → accepted_below (with past (top + step)) (top + step) d ≡ accepted_below past (top + step) d
    as_it_was d a = below_other past (top + step) (top + step) d (λ k e. absurd (omega arith))

    by_place : (d : ℕ) → 1 ≤ d → d ≤ 32 → seen_at (slid memory step) d ≡ accepted_below (with past (top + step)) (top + step) d
    by_place d a b = elim (ℕ_discrete d step) [
      | yes e ↦ slid_last memory step d l b e ∙ sym (as_it_was d a ∙ rw e old_newest)
      | no n ↦ elim (dec_lt d step) [
        | yes k ↦ slid_near memory step d l b a k ∙ sym (as_it_was d a ∙ passed_over d a k)
        | no g ↦ slid_far memory step d l b (omega arith) ∙ m.entries (d - step) (omega arith) (omega arith) ∙ sym (as_it_was d a ∙ old_entry d (omega arith))
      ]
    ]

-- a frame near enough to the newest one, which a record of that one counts
module _ (h : Record) (top t : ℕ) (past : ℕ → Bool) (s : Stands h top) (m : Recalls h.seen top past) where
  recalls_ahead : top < t → t ≤ top + 32767 → Recalls (memory_after h (t % 65536)) t (with past t)
  recalls_ahead l a =
      let moved : slid h.seen (t - top) ≡ memory_after h (t % 65536) =
      ap (slid h.seen) (sym (lead_true t top l a) ∙ rw s.last) ∙ memory_again h (t % 65536) s.accepted in
      let there : top + (t - top) ≡ t = omega arith in
      rw (← moved) (subst (λ (x : ℕ). Recalls (slid h.seen (t - top)) x (with past x)) there (above_newest h.seen top (t - top) past (omega arith) m))

  recalls_late : t < top → top ≤ t + 32 → Recalls (seeing h.seen (lag (t % 65536) h.last)) top (with past t)
  recalls_late l b =
      let lags : lag (t % 65536) h.last ≡ top - t = rw s.last (lag_true t top l (omega arith)) in
      rw lags
      (below_newest h.seen (seeing h.seen (top - t)) top t past (omega arith) m
      (λ d x y z. let e : d ≡ top - t = omega arith in rw e (seeing_there h.seen (top - t)))
      (λ d x y z. seeing_elsewhere h.seen (top - t) d (omega arith) x (λ e. z (omega arith))))

  -- the memory stays, where it shows the frame already or does not reach as far
  recalls_again : t ≤ top → ((d : ℕ) → 1 ≤ d → d ≤ 32 → t + d ≡ top → seen_at h.seen d ≡ true) → Recalls h.seen top (with past t)
  recalls_again l shown = below_newest h.seen h.seen top t past l m shown (λ d x y z. refl)

  recalls_order : t ≤ top + 32767 → top ≤ t + 32768 → Recalls (counted_as h (t % 65536) (true_kind h.seen t top)).seen (max top t) (with past t)
  recalls_order a b =
      by_order (λ o. Recalls (counted_as h (t % 65536) (kind_of h.seen (top - t) o)).seen (max top t) (with past t)) t top
      (λ e. at top (omega arith) (recalls_again (omega arith) (λ d x y z. absurd (omega arith))))
      (λ l. at t (omega arith) (recalls_ahead l a))
      (λ l. by_memory h.seen (top - t) (λ k. Recalls (counted_as h (t % 65536) k).seen (max top t) (with past t))
      (λ far. at top (omega arith) (recalls_again (omega arith) (λ d x y z. absurd (omega arith))))
      (λ near e. at top (omega arith) (recalls_again (omega arith) (λ d x y z. let k : d ≡ top - t = omega arith in rw k e)))
      (λ near e. at top (omega arith) (recalls_late l (omega arith))))
    where
      at : {memory : ℕ} (x : ℕ) → max top t ≡ x → Recalls memory x (with past t) → Recalls memory (max top t) (with past t)
      at x e r = rw e r

-- a refused frame is no part of it
pub refused_keeps : (h : Record) (number new : ℕ) → number ≢ 0 → ((noted h number new).accepted ≡ h.accepted) × ((noted h number new).seen ≡ h.seen)
unfolding noted
refused_keeps h number new n = rw (ne_eqb number 0 n) (by_test (number == 4 || number == 5))
  where
    by_test : (l : Bool) → ((if l then lost_after h else h).accepted ≡ h.accepted) × ((if l then lost_after h else h).seen ≡ h.seen)
    by_test true = (refl, refl)
    by_test false = (refl, refl)

-- ---- any list of answers

-- the same frames, however they are told
recalls_same : {memory top : ℕ} {past past' : ℕ → Bool} → ((x : ℕ) → past x ≡ past' x) → Recalls memory top past → Recalls memory top past'
recalls_same {top = top} e m = record {
  newest = sym (e top) ∙ m.newest;
  none_above = λ t l. sym (e t) ∙ m.none_above t l;
  entries = λ d a b. m.entries d a b ∙ ap (λ (x : Bool). nat_le d top && x) (e (top - d));
}

-- those of `past`, and the accepted ones of the list
abbrev pub with_all : (ℕ → Bool) → List Heard → ℕ → Bool
with_all past heard x = past x || accepts heard x

pub recalls : (h : Record) (top : ℕ) (past : ℕ → Bool) (heard : List Heard) → Stands h top → Paced top heard → Recalls h.seen top past
    → Recalls (after h (map carried heard)).seen (highest top heard) (with_all past heard)
unfolding after highest Paced accepts
recalls h top past [] s paced m = recalls_same (λ x. sym (or-false (past x))) m
recalls h top past (a ∷ rest) s paced m =
    let next : Record = noted h a.number (a.sequence % 65536) in
    let stands : Stands next (higher top a) = stands_step h top a s paced.0 in
    elim (ℕ_discrete a.number 0) [
      | yes e ↦
          let counted : counted_as h (a.sequence % 65536) (true_kind h.seen a.sequence top) ≡ next =
          ap (counted_as h (a.sequence % 65536)) (sym (judged h top a.sequence s (paced.0 e).0 (paced.0 e).1)) ∙ noted_accepted h a.number (a.sequence % 65536) e in
          let higher_is : higher top a ≡ max top a.sequence = rw (eq-eqb a.number 0 e) in
          recalls_same (λ x. rw (eq-eqb a.number 0 e) (or_assoc (past x) (a.sequence == x) (accepts rest x)))
          (recalls next (higher top a) (with past a.sequence) rest stands paced.1
          (rw (higher_is, ← counted) (recalls_order h top a.sequence past s m (paced.0 e).0 (paced.0 e).1)))
      | no n ↦
          let higher_is : higher top a ≡ top = rw (ne_eqb a.number 0 n) in
          recalls_same (λ x. rw (ne_eqb a.number 0 n))
          (recalls next (higher top a) past rest stands paced.1 (rw (higher_is, (refused_keeps h a.number (a.sequence % 65536) n).1) m))
    ]

-- ---- from the first accepted frame on, whatever the record's numbers were before

module _ (h : Record) (first : ℕ) (heard : List Heard) (none : h.accepted ≡ false) (paced : Paced first heard) where
  -- the frames that were accepted, and the newest of them
  abbrev pub arrived : ℕ → Bool
  arrived = with_all (nat_eq first) heard

  abbrev pub top : ℕ
  top = highest first heard

  abbrev pub left : Record
  left = after (noted h 0 (first % 65536)) (map carried heard)

  begun : Recalls (noted h 0 (first % 65536)).seen first (nat_eq first)
  begun =
      rw (← noted_accepted h 0 (first % 65536) refl, ← standing_first h (first % 65536) none, ← memory_first h (first % 65536) none)
      (record {
        newest = eq-eqb first first refl;
        none_above = λ t l. ne_eqb first t (λ e. absurd (omega arith));
        entries = λ d a b. none_seen d ∙ sym (nothing d a);
      })
    where
      nothing : (d : ℕ) → 1 ≤ d → accepted_below (nat_eq first) first d ≡ false
      nothing d a = elim (dec_le d first) [
        | yes l ↦ rw (le-leb d first l, ne_eqb first (first - d) (λ e. absurd (omega arith)))
        | no g ↦ rw (lt-leb d first (omega arith))
      ]

  -- the entry at distance d is set exactly if frame top - d was accepted
  pub remembered : Recalls left.seen top arrived
  remembered = recalls (noted h 0 (first % 65536)) first (nat_eq first) heard (stands_first h first none) paced begun

  -- a frame behind the newest, by at most 32768: farther than 32 it is older, and else it is late exactly if it was not accepted before
  pub late_or_twice : (t : ℕ) → t < top → top ≤ t + 32768
      → noted left 0 (t % 65536) ≡ counted_as left (t % 65536) (if nat_lt 32 (top - t) then Older else if arrived t then Repeat else Late)
  late_or_twice t l few =
      late_copy (noted h 0 (first % 65536)) first heard t (stands_first h first none) paced l few
      ∙ ap (counted_as left (t % 65536)) kind
    where
      kind : behind_by left.seen (top - t) ≡ (if nat_lt 32 (top - t) then Older else if arrived t then Repeat else Late)
      kind = elim (dec_lt 32 (top - t)) [
        | yes far ↦ rw (lt-ltb 32 (top - t) far)
        | no near ↦
            let there : top - (top - t) ≡ t = omega arith in
            let entry : seen_at left.seen (top - t) ≡ arrived t =
            remembered.entries (top - t) (omega arith) (omega arith) ∙ rw (le-leb (top - t) top (omega arith), there) in
            rw (le-ltb 32 (top - t) (omega arith), entry)
      ]
