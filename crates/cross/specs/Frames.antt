-- What a cross line holds back, for every frame from a fresh one on (document 01, Cross line). Bytes and marks are two runs of the same machine,
-- fresh with 0 and with 1.
-- Assumes nothing.
use Rattle.std.specs.Prelude.{◌≡◌, Bool, List, ℕ, zero, suc, ◌+◌, ◌*◌, ◌/◌, ◌%◌, ◌<◌, length, replicate}
use Rattle.std.proofs.Math.Path.{refl, sym, ap}
use Rattle.std.proofs.Common.{◌∙◌, suc-mul, arith, lit<, lit≤}
use Rattle.std.proofs.Math.Nat.{dvd_refl}
use Rattle.algebra.specs.Tests.{at}
use Rattle.algebra.specs.Lists.{tabulate, length_tabulate, tabulated, tabulate_same, get_or_tabulate}
use Rattle.rings.specs.Rings.{tri, order, order_small, order_own}
use Rattle.rings.specs.Delay.{Turns, Past, position, memory, answer, position_is, step_rule}
use Rattle.rings.specs.Run.{RunFits, Ran, ran, run, run_from}
use Rattle.interleave.specs.Line.{rounds, turns_by}
use Rattle.cross.specs.Cross.{cycle, turned, due, stored}
use Rattle.cross.specs.Positions.{position_after, rest_after, common, common_all}

-- memory after so many frames of bytes f 0, f 1, .., and the bytes that are due with frame F; d is 0 for bytes, 1 for marks
unfoldable pub memory_after : Bool → ℕ → ℕ → (ℕ → List ℕ) → ℕ → List ℕ
memory_after back once d f zero = replicate 1512 d
memory_after back once d f (suc F) = stored back (position_after once F) (memory_after back once d f F) (f F)

abbrev pub due_with : Bool → ℕ → ℕ → (ℕ → List ℕ) → ℕ → List ℕ
due_with back once d f F = due back (position_after once F) (memory_after back once d f F) (f F)

-- x is byte i of the frame that came D frames before frame F, and d where that is negative
pub record HeldBack (f : ℕ → List ℕ) (d D F i x : ℕ) : Type 0 where
  pub early : F < D → x ≡ d
  pub late : (G : ℕ) → G + D ≡ F → x ≡ at (f G) i

-- a memory of 1512 bytes may run
pub line_fits : (p size : ℕ) → size ≡ 1512 → RunFits 28 4 (cycle * 28) (p % cycle * 28) size
unfolding tri
line_fits p size e = record { branches = (lit< tt, lit≤ tt); unit = (lit< tt, lit≤ tt); place = omega arith; exact = e; round = λ k h u. rounds 28 4 common k (common_all k h u) }

-- what a run over a frame of 28 bytes gives
pub frame_ran : (back : Bool) (p : ℕ) (m bytes out left : List ℕ) (r : ℕ) → length bytes ≡ 28
    → ran out left r ≡ run (order back 28) 28 4 (cycle * 28) (p % cycle * 28) m bytes → (left ≡ stored back p m bytes) × (out ≡ due back p m bytes)
unfolding turned
frame_ran back p m bytes out left r n e =
    let g = e ∙ ap (run (order back 28) 28 4 (cycle * 28) (p % cycle * 28) m) (tabulated bytes 28 (at bytes) 0 n (λ i h. refl)) in
    (ap (λ (z : Ran). z.memory) g, ap (λ (z : Ran). z.out) g)

-- ---- as steps of a delay line: step s carries byte s % 28 of frame s / 28

abbrev steps : ℕ
steps = cycle * 28

byte_of : (ℕ → List ℕ) → ℕ → ℕ
byte_of f s = at (f (s / 28)) (s % 28)

step_place : (F i : ℕ) → i < 28 → (F * 28 + i) % 28 ≡ i
step_place F i h = omega arith

step_frame : (F i : ℕ) → i < 28 → (F * 28 + i) / 28 ≡ F
step_frame F i h = omega arith

byte_at : (f : ℕ → List ℕ) (F i : ℕ) → i < 28 → byte_of f (F * 28 + i) ≡ at (f F) i
unfolding byte_of
byte_at f F i h = rw (step_frame F i h, step_place F i h)

rest_steps : (F : ℕ) → F % cycle * 28 ≡ F * 28 % steps
rest_steps F = omega arith

module _ (back : Bool) (once d : ℕ) (f : ℕ → List ℕ) where
  all_turns : Turns (order back 28) 28 4 steps
  all_turns = turns_by 28 4 common (order back 28) (lit< tt) (lit< tt) (lit< tt) common_all (order_small back 28) (order_own back 28)

  abbrev stepped : ℕ → List ℕ
  stepped s = memory (order back 28) 28 4 steps d (byte_of f) s

  -- the position stands for the frame number
  place : (F : ℕ) → position_after once F % cycle * 28 ≡ position steps (F * 28)
  place F =
      ap (λ (z : ℕ). z * 28) (rest_after cycle once F (dvd_refl cycle))
      ∙ rest_steps F
      ∙ sym (position_is steps (F * 28) all_turns.period)

  -- the steps of frame F
  frame_steps : (F : ℕ) → stepped (F * 28) ≡ memory_after back once d f F
      → turned back (position_after once F) (memory_after back once d f F) (f F)
      ≡ ran (tabulate 28 λ i. answer (order back 28) 28 4 steps d (byte_of f) (F * 28 + i)) (stepped (F * 28 + 28)) (position steps (F * 28 + 28))
  unfolding turned
  frame_steps F e =
      rw (place F, ← e, tabulate_same 28 (at (f F)) (λ i. byte_of f (F * 28 + i)) λ i h. sym (byte_at f F i h))
      (run_from (order back 28) 28 4 steps d (byte_of f) 28 (F * 28))

  next_frame : (F : ℕ) → stepped (F * 28) ≡ memory_after back once d f F → stepped (suc F * 28) ≡ memory_after back once d f (suc F)
  unfolding memory_after
  next_frame F e = ap stepped (suc-mul F 28) ∙ sym (ap (λ (z : Ran). z.memory) (frame_steps F e))

  fresh_frame : stepped (0 * 28) ≡ memory_after back once d f 0
  unfolding memory memory_after tri
  fresh_frame = refl

  all_frames : (F : ℕ) → stepped (F * 28) ≡ memory_after back once d f F
  all_frames zero = fresh_frame
  all_frames (suc F) = next_frame F (all_frames F)

  pub due_size : (F : ℕ) → length (due_with back once d f F) ≡ 28
  due_size F = ap (λ (z : Ran). length z.out) (frame_steps F (all_frames F)) ∙ length_tabulate 28 _

  due_step : (F i : ℕ) → i < 28 → answer (order back 28) 28 4 steps d (byte_of f) (F * 28 + i) ≡ at (due_with back once d f F) i
  due_step F i h = sym (ap (λ (z : Ran). at z.out i) (frame_steps F (all_frames F)) ∙ get_or_tabulate 28 _ i 0 h)

  -- Byte i is held back 4 frames for each unit of its ring, for every frame F.
  pub held_back : (F i : ℕ) → i < 28 → HeldBack f d (4 * order back 28 i) F i (at (due_with back once d f F) i)
  held_back F i h =
      let p : Past (byte_of f) d (order back 28 i * 4 * 28) (F * 28 + i) (at (due_with back once d f F) i) =
      rw (step_place F i h, due_step F i h) at (step_rule (order back 28) 28 4 steps all_turns d (byte_of f) (F * 28 + i)) in
      record { early = λ u. p.early (omega arith); late = λ G e. p.due (G * 28 + i) (omega arith) ∙ byte_at f G i h }
