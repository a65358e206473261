-- Unmarked runs of up to depth · t slots leave every word within the bound (document 01, Block interleaver and frame, Delay line): the slots of
-- one word lie at least the depth apart, so such a run holds at most t of them; and no word has slots in two runs.
-- Assumes nothing.
use Rattle.std.specs.Prelude.{◌≡◌, Bool, true, false, ◌&&◌, not, List, [], ◌∷◌, ℕ, zero, suc, ◌+◌, ◌*◌, ◌≤◌, ◌<◌, drop, eqb}
use Rattle.std.proofs.Common.{sym, ap, ◌∙◌, arith, get_or-take, get_or-drop}
use Rattle.std.proofs.Math.Decide.{ℕ_discrete}
use Rattle.algebra.specs.Tests.{at, one_if, total, total_same}
use Rattle.algebra.specs.Sets.{count, one_yes}
use Rattle.algebra.specs.Lists.{length_tabulate, get_or_tabulate, tabulate_same, part}
use Rattle.word.specs.Word.{error_of, error_of_same, error_of_marked, errors, marked}
use Rattle.word.specs.Distance.{total_zero}
use Rattle.interleave.specs.Block.{low, high, in_block}
use Rattle.frame.specs.Frame.{slot_count}
use Rattle.frame.specs.declared.setting.Framing.{Framing}
use Rattle.coverage.specs.Runs.{hit?, runs, Spaced, Near}
use Rattle.coverage.specs.Channel.{Layout, word_of, AllWithin, half, OneRun, SomeRuns, MarkedRuns}
use Rattle.coverage.specs.Frame.{in_frame, in_frames}
use Rattle.coverage.specs.Line.{on_line}
use Rattle.coverage.specs.Coverage.{FrameRunWithin, LineRunWithin, LineRunsWithin, FrameMarkedRunsWithin, LineMarkedRunsWithin}
use Rattle.coverage.proofs.Places.{block_spaced, block_near, line_spaced, line_near}

-- ---- a word of slots that runs have struck

-- ones that stand only where a test passes are at most as many as pass
total_count : {P : ℕ → Type 0} (q : (k : ℕ) → Dec (P k)) (n : ℕ) (f : ℕ → ℕ) → ((i : ℕ) → i < n → f i ≤ 1) → ((i : ℕ) → i < n → ¬ P i → f i ≡ 0) → total n f ≤ count q n
unfolding total count
total_count q zero f most zeros = omega arith
total_count q (suc n) f most zeros = elim (q n) [
  | yes p ↦ omega (arith, most n (omega arith), one_yes (q n) p, total_count q n f (λ i l. most i (omega arith)) (λ i l. zeros i (omega arith)))
  | no p ↦ omega (arith, zeros n (omega arith) p, total_count q n f (λ i l. most i (omega arith)) (λ i l. zeros i (omega arith)))
]

error_most : (mark x y : ℕ) → error_of mark x y ≤ 1
unfolding error_of
error_most mark x y = go (eqb mark 0 && not (eqb x y))
  where
    go : (b : Bool) → one_if b ≤ 1
    go true = omega arith
    go false = omega arith

-- words whose slots lie at least the depth apart, and at most the gap
module _ (y : Layout) (depth gap : ℕ) (spaced : (w : ℕ) → Spaced depth y.n (y.slot w)) (near : (w : ℕ) → Near gap y.n (y.slot w)) (sent slots marks : List ℕ) where
  module _ (w : ℕ) where
    -- what is wrong at place p, and what is marked
    abbrev wrong : ℕ → ℕ
    wrong p = error_of (at marks (y.slot w p)) (at slots (y.slot w p)) (at sent (y.slot w p))

    abbrev mark : ℕ → ℕ
    mark p = at marks (y.slot w p)

    at_place : (x : List ℕ) (p : ℕ) → p < y.n → at (word_of y x w) p ≡ at x (y.slot w p)
    at_place x p l = get_or_tabulate y.n (λ p. at x (y.slot w p)) p 0 l

    errors_total : errors (word_of y marks w) (word_of y slots w) (word_of y sent w) ≡ total y.n wrong
    unfolding errors
    errors_total = rw length_tabulate (total_same y.n _ _ λ p l. rw (at_place marks p l, at_place slots p l, at_place sent p l))

    marked_total : marked (word_of y marks w) (word_of y slots w) ≡ total y.n mark
    unfolding marked
    marked_total = rw length_tabulate (total_same y.n _ _ λ p l. at_place marks p l)

  pub runs_within : SomeRuns depth gap y sent slots marks → AllWithin y sent slots marks
  runs_within h w k =
      omega (
        arith,
        errors_total w,
        marked_total w,
        total_zero y.n (mark w) (λ p l. h.alone.unmarked w p k l),
        total_count (λ p. hit? h.runs (y.slot w p)) y.n (wrong w) (λ p l. error_most _ _ _) (λ p l clean. error_of_same _ _ _ (h.alone.clean w p k l clean)),
        runs depth gap y.n (half y.r) (y.slot w) (spaced w) (near w) h.runs h.apart,
      )

  pub run_within : OneRun depth y sent slots marks → AllWithin y sent slots marks
  run_within h = runs_within (record { runs = (h.start, h.size) ∷ []; apart = (h.short, tt, tt); alone = h.alone })

  pub marked_within : MarkedRuns depth gap y sent slots marks → AllWithin y sent slots marks
  marked_within h w k =
      omega (
        arith,
        errors_total w,
        marked_total w,
        total_zero y.n (wrong w) (λ p l. elim (ℕ_discrete (mark w p) 0) [
          | yes e ↦ error_of_same _ _ _ (h.clean w p k l e)
          | no e ↦ error_of_marked _ _ _ e
        ]),
        total_count (λ p. hit? h.runs (y.slot w p)) y.n (mark w) (λ p l. h.zero_or_one w p k l) (λ p l. h.outside w p k l),
        runs depth gap y.n y.r (y.slot w) (spaced w) (near w) h.runs h.apart,
      )

-- ---- frames

pub frame_run_within : FrameRunWithin
frame_run_within f = run_within (in_frame f) f.depth _ (block_spaced f.depth f.n) (block_near f.depth f.n)

pub frame_marked_runs_within : FrameMarkedRunsWithin
frame_marked_runs_within f = marked_within (in_frame f) f.depth _ (block_spaced f.depth f.n) (block_near f.depth f.n)

-- one run in frames that come one after the other leaves every word of frame i within the bound, also where it crosses a border
module _ (f : Framing) (many i : ℕ) (before : i < many) where
  -- word w of frame i
  word_of_lem : (slots : List ℕ) (w : ℕ) → w < f.depth → word_of (in_frames f many) slots (i * f.depth + w) ≡ word_of (in_frame f) (part (slot_count f) i slots) w
  word_of_lem slots w l = tabulate_same f.n _ _ λ p u.
      let s : ℕ = p * f.depth + w in
      rw (high i w l, low i w l) (ap (at slots) (omega arith) ∙ sym (get_or-take (slot_count f) (drop (i * slot_count f) slots) s 0 (in_block p w f.depth f.n u l) ∙ get_or-drop (i * slot_count f) slots s 0))

  pub frames_run_within : (sent slots marks : List ℕ) → OneRun f.depth (in_frames f many) sent slots marks
      → AllWithin (in_frame f) (part (slot_count f) i sent) (part (slot_count f) i slots) (part (slot_count f) i marks)
  frames_run_within sent slots marks h w l =
      rw (← word_of_lem sent w l, ← word_of_lem slots w l, ← word_of_lem marks w l)
      (run_within (in_frames f many) f.depth _ (λ v. block_spaced f.depth f.n _) (λ v. block_near f.depth f.n _) sent slots marks h (i * f.depth + w) (in_block i w f.depth many before l))

-- ---- delay lines

pub line_runs_within : LineRunsWithin
line_runs_within l ok many = runs_within (on_line l many) l.branches _ (line_spaced l ok) (line_near l ok)

pub line_run_within : LineRunWithin
line_run_within l ok many = run_within (on_line l many) l.branches _ (line_spaced l ok) (line_near l ok)

pub line_marked_runs_within : LineMarkedRunsWithin
line_marked_runs_within l ok many = marked_within (on_line l many) l.branches _ (line_spaced l ok) (line_near l ok)
