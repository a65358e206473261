-- The limits of a frame, read from the test.
-- Assumes nothing.
use Rattle.std.specs.Prelude.{◌≡◌, true, false, ◌&&◌, ◌-◌, ◌*◌, ◌≤◌}
use Rattle.std.proofs.Math.Bool.{Bool}
use Rattle.std.proofs.Common.{mul-le-mul_right, arith}
use Rattle.std.proofs.Math.Dec.{T, leb, leb→le}
use borrow.Author.Tests.{le-leb}
use Rattle.algebra.specs.Tests.{and_left, and_right}
use Rattle.word.specs.Setting.{allowed, Allowed, limits, allowed_yes}
use Rattle.word.specs.declared.Setting.{Setting}
use Rattle.frame.specs.Frame.{word_setting, slot_count, area_size, allowed_frame}
use Rattle.frame.specs.declared.setting.Framing.{Framing}

-- what keeps a frame's sizes small: its words' limits, and at most 16 words
pub record Small (f : Framing) : Type 0 where
  pub words : Allowed (word_setting f)
  pub few : f.depth ≤ 16

pub record FrameAllowed (f : Framing) : Type 0 where
  pub words : Allowed (word_setting f)
  pub some : 1 ≤ f.depth
  pub few : f.depth ≤ 16
  pub room : 4 ≤ area_size f

module _ (f : Framing) where
  frame_limits : T (allowed_frame f) → FrameAllowed f
  unfolding allowed_frame
  frame_limits t =
      let a : Bool = allowed (word_setting f) in
      let b : Bool = leb 1 f.depth in
      let c : Bool = leb f.depth 16 in
      let d : Bool = leb 4 (area_size f) in
      let t2 : T (a && b && c) = and_left (a && b && c) d t in
      let t1 : T (a && b) = and_left (a && b) c t2 in
      record {
        words = limits (word_setting f) (and_left a b t1);
        some = leb→le _ _ (and_right a b t1);
        few = leb→le _ _ (and_right (a && b) c t2);
        room = leb→le _ _ (and_right (a && b && c) d t);
      }

  pub frame_kept : allowed_frame f ≡ true → FrameAllowed f
  frame_kept e = frame_limits (rw e tt)

  pub frame_yes : FrameAllowed f → true ≡ allowed_frame f
  unfolding allowed_frame
  frame_yes a =
      rw (← allowed_yes (word_setting f) a.words, le-leb 1 f.depth a.some, le-leb f.depth 16 a.few, le-leb 4 (area_size f) a.room)

  -- what the word code's own test says of the frame's words
  pub words_no : allowed (word_setting f) ≡ false → false ≡ allowed_frame f
  unfolding allowed_frame
  words_no e = rw e

  pub words_yes : (s : Setting) (a : Bool) → s ≡ word_setting f → a ≡ allowed s → a ≡ true → Allowed (word_setting f)
  words_yes s a e g h = let t : allowed (word_setting f) ≡ true = cc in limits (word_setting f) (rw t tt)

  pub small_yes : allowed (word_setting f) ≡ true → f.depth ≤ 16 → Small f
  small_yes e h = record { words = limits (word_setting f) (rw e tt); few = h }

-- k is at most 253, and A at most 4048
module _ (f : Framing) (a : Small f) where
  pub area_small : area_size f ≤ 4080
  area_small =
      let b : f.depth * (f.n - f.r) ≤ 16 * (f.n - f.r) = mul-le-mul_right (f.n - f.r) a.few in
      omega (arith, a.words.short)

  pub slots_small : slot_count f ≤ 4080
  slots_small =
      let b : f.n * f.depth ≤ 255 * f.depth = mul-le-mul_right f.depth (omega (arith, a.words.short)) in
      omega (arith, a.few)

module _ (f : Framing) (a : FrameAllowed f) where
  pub small : Small f
  small = record { words = a.words; few = a.few }

  pub area_few : area_size f ≤ 4080
  area_few = area_small f small

  pub slots_few : slot_count f ≤ 4080
  slots_few = slots_small f small

pub small_kept : (f : Framing) → allowed_frame f ≡ true → Small f
small_kept f e = small f (frame_kept f e)
