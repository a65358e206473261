-- How the first word of a frame that is no codeword is found, and what is answered then (document 02, No. 9).
-- Assumes nothing.
use Rattle.std.specs.Prelude.{◌≡◌, Bool, true, false, not, Ok, Err, Option, Some, None, List, ℕ, ◌<◌, length}
use Rattle.std.proofs.Math.Path.{refl}
use Rattle.std.proofs.Common.{sym, ap, ◌∙◌, arith}
use borrow.Author.Tests.{lt-ltb, le-ltb}
use Rattle.algebra.specs.Tests.{at, below_all, first_none, first_is}
use Rattle.algebra.specs.Refusal.{new, kept}
use Rattle.word.specs.Setting.{allowed_yes}
use Rattle.word.specs.Codeword.{is_codeword}
use Rattle.word.specs.Looking.{Stands, standing, standing_rule}
use Rattle.interleave.specs.Slots.{word_in, word_rule, word_below, in_slots}
use Rattle.frame.specs.Frame.{word_setting}
use Rattle.frame.specs.Clean.{clean_number, clean_outcome, is_unclean, unclean, found, clean_refusal, cleanness}
use Rattle.frame.specs.Promises.{IsClean}
use Rattle.frame.specs.Checks.{CleanChecked, clean_passes}
use Rattle.frame.specs.declared.setting.Framing.{Framing}
use Rattle.frame.specs.declared.clean.CleanError.{CleanError}
use Rattle.frame.specs.declared.clean.CleanError.TheVariants.{BadSetting, BadLength}

-- ---- one word, read where it stands

module _ (f : Framing) (w : ℕ) (slots : List ℕ) where
  stands_here : standing (word_setting f) f.depth w slots ≡ word_in f.depth f.n slots w
  stands_here = standing_rule (word_setting f) f.depth w slots ∙ sym (word_rule f.depth f.n slots w)

  -- the test of word w where it stands
  pub word_told : (t b : Bool) → t ≡ is_codeword (word_setting f) (standing (word_setting f) f.depth w slots) → t ≡ b → is_unclean f slots w ≡ not b
  word_told t b e h = rw (← stands_here, ← e) (ap not h)

pub word_stands : (f : Framing) (slots : List ℕ) (w : ℕ) → CleanChecked f slots → ((i : ℕ) → at slots i < 256) → w < f.depth → Stands (word_setting f) f.depth w slots
word_stands f slots w c bytes l = record {
  setting = rw (← allowed_yes (word_setting f) c.limits.words) tt;
  within = λ i h. in_slots i w f.depth f.n (length slots) h l c.slots_size;
  small = rw (stands_here f w slots) (word_below f.depth f.n slots w 256 (omega arith) (below_all 256 slots λ i h. bytes i));
}

-- ---- the search

-- the answer names the first word that is no codeword, or none where there is none
pub record FirstUnclean (f : Framing) (slots : List ℕ) (r : Option ℕ) : Type 0 where
  pub outcome : clean_outcome (Ok r) ≡ found f.depth (unclean f slots)

module _ (f : Framing) (slots : List ℕ) where
  pub unclean_here : (w : ℕ) → w < f.depth → ((i : ℕ) → i < w → is_unclean f slots i ≡ false) → is_unclean f slots w ≡ true → FirstUnclean f slots (Some w)
  unfolding unclean
  unclean_here w l h p = record { outcome = rw (first_is f.depth (is_unclean f slots) w l h p, lt-ltb w f.depth l) refl }

  pub unclean_nowhere : ((i : ℕ) → i < f.depth → is_unclean f slots i ≡ false) → FirstUnclean f slots None
  unfolding unclean
  unclean_nowhere h = record { outcome = rw (first_none f.depth (is_unclean f slots) h, le-ltb f.depth f.depth (omega arith)) refl }

-- ---- the answers

-- a refusal's number is not 0
refusal_some : (e : CleanError) → 0 < clean_number {A = Unit {0}} (Err e)
refusal_some BadSetting = omega arith
refusal_some BadLength = omega arith

module _ (f : Framing) (slots : List ℕ) where
  pub clean_refused : (e : CleanError) → clean_number {A = Unit {0}} (Err e) ≡ clean_refusal f slots → IsClean f slots (Err e)
  unfolding cleanness
  clean_refused e h = record { outcome = rw h (kept (clean_refusal f slots) _ _ (omega (arith, refusal_some e))) }

  pub clean_told : CleanChecked f slots → (r : Option ℕ) → FirstUnclean f slots r → IsClean f slots (Ok r)
  unfolding cleanness
  clean_told c r p = record { outcome = p.outcome ∙ new (clean_refusal f slots) _ _ (sym (clean_passes f slots c)) }
