-- The line of the changed slots as it is written, slot by slot.
-- Assumes nothing.
use Rattle.std.specs.Prelude.{◌≡◌, Bool, true, false, List, [], ◌∷◌, ◌++◌, ℕ, ◌+◌, ◌*◌, ◌≤◌, ◌<◌, eqb, length, get_or, if◌then◌else◌}
use Rattle.std.proofs.Common.{append_assoc, append-nil, arith, eq-eqb, ne_eqb}
use Rattle.std.proofs.Math.ListN.{length-append}
use Rattle.algebra.specs.Lists.{joined, joined_more}
use Rattle.text.specs.Page.{Writes, WritesWithin, writes_none, writes_then, writes_end}
use Rattle.text.specs.declared.Page.{Page}
use Rattle.text.specs.Text.{bytes, decimal}
use Rattle.text.specs.Text.Decimal.{decimal_some}
use Rattle.reader.specs.Lines.{newline, changed_below, blanked, spaced, slots_line, slot_text}

-- ---- what one slot adds

module _ (mark : ℕ) (first : Bool) (slot : ℕ) where
  pub slot_same : (page : Page) → mark ≡ 0 → page.end ≤ length page.text.now → Writes (slot_text mark first slot) page page
  unfolding slot_text
  slot_same page e l = rw (eq-eqb mark 0 e) (writes_none page l)

  module _ (changed : mark ≡ 0 → ⊥) {turned after : Page} (q : Writes (decimal slot) turned after) {before : Page} where
    pub slot_first : first ≡ true → turned ≡ before → Writes (slot_text mark first slot) before after
    unfolding slot_text
    slot_first e s = rw (ne_eqb mark 0 changed, e, ← s) q

    pub slot_later : {between : Page} → first ≡ false → Writes (bytes " ") before between → turned ≡ between → Writes (slot_text mark first slot) before after
    unfolding slot_text
    slot_later e p s = rw (ne_eqb mark 0 changed, e) (writes_then p (rw s at q))

-- ---- one number more

blanked_more : (l : List ℕ) (n : ℕ) → blanked (l ++ n ∷ []) ≡ blanked l ++ bytes " " ++ decimal n
unfolding blanked
blanked_more [] n = simp append-nil
blanked_more (m ∷ l) n = rw (blanked_more l n) (simp append_assoc)

spaced_one : (n : ℕ) → spaced (n ∷ []) ≡ decimal n
unfolding spaced blanked
spaced_one n = append-nil (decimal n)

module _ (m : ℕ) (l : List ℕ) where
  spaced_next : (n : ℕ) → spaced (m ∷ l ++ n ∷ []) ≡ spaced (m ∷ l) ++ (bytes " " ++ decimal n)
  unfolding spaced
  spaced_next n = rw (blanked_more l n) (simp append_assoc)

  spaced_some : 0 < length (spaced (m ∷ l))
  unfolding spaced
  spaced_some = omega (arith, decimal_some m, length-append (decimal m) (blanked l))

-- the line has bytes as soon as it has a number
spaced_more : (l : List ℕ) (at mark slot : ℕ) → spaced (l ++ (if eqb mark 0 then [] else slot ∷ [])) ≡ spaced l ++ slot_text mark (eqb (at + length (spaced l)) at) slot
unfolding spaced slot_text
spaced_more l at mark slot = go (eqb mark 0) l
  where
    go : (same : Bool) (l : List ℕ) → spaced (l ++ (if same then [] else slot ∷ [])) ≡
        spaced l ++ (if same then [] else if eqb (at + length (spaced l)) at then decimal slot else bytes " " ++ decimal slot)
    go true l = simp append-nil
    go false [] = rw (eq-eqb (at + 0) at (omega arith)) (spaced_one slot)
    go false (m ∷ l) = rw (ne_eqb (at + length (spaced (m ∷ l))) at (λ e. omega (arith, spaced_some m l))) (spaced_next m l slot)

-- ---- the slots one after the other, and that each has its bound of bytes

module _ (map : List ℕ) where
  pub slots_begun : (page : Page) → page.end ≤ length page.text.now → Writes (spaced (changed_below 0 map)) page page
  unfolding spaced changed_below joined
  slots_begun page room = writes_none page room

  pub slots_begun_within : (page : Page) → page.end ≤ length page.text.now → WritesWithin (5 * 0) (spaced (changed_below 0 map)) page page
  slots_begun_within page room = record { whole = slots_begun page room; within = omega arith }

  module _ (i : ℕ) {before between after : Page} where
    pub slots_on : Writes (spaced (changed_below i map)) before between → Writes (slot_text (get_or map i 0) (eqb between.end before.end) i) between after
        → Writes (spaced (changed_below (i + 1) map)) before after
    unfolding changed_below
    slots_on p q = rw (joined_more, spaced_more _ before.end, ← writes_end p) (writes_then p q)

    pub slots_done : Writes (spaced (changed_below i map)) before between → length map ≡ i → Writes newline between after → Writes (slots_line map) before after
    unfolding slots_line
    slots_done p e q = rw e (writes_then p q)

    -- `slots_on_within` doesn't rest on `slots_on`: an edit of what a slot adds would leave it unread, and not refused
    module _ (p : WritesWithin (5 * i) (spaced (changed_below i map)) before between) where
      pub slots_on_within : WritesWithin 5 (slot_text (get_or map i 0) (eqb between.end before.end) i) between after
          → WritesWithin (5 * (i + 1)) (spaced (changed_below (i + 1) map)) before after
      unfolding changed_below
      slots_on_within q = record {
        whole = rw (joined_more, spaced_more _ before.end, ← writes_end p.whole) (writes_then p.whole q.whole);
        within = omega (arith, p.within, q.within);
      }

      pub slots_done_within : length map ≤ i → i ≤ length map → Writes newline between after → WritesWithin (5 * length map + 1) (slots_line map) before after
      slots_done_within l m q = record { whole = slots_done p.whole (omega arith) q; within = omega (arith, p.within, writes_end q) }
