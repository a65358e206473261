-- Clean and corrected: a word is a codeword exactly where it is its own correction. That it is clean exactly where `decode` with no marks accepts it and
-- changes nothing stands in proofs/CleanLaws.antt.
-- Assumes nothing.
use Rattle.std.specs.Prelude.{◌≡◌, List, ℕ, T, length, replicate}
use Rattle.std.proofs.Common.{arith}
use Rattle.std.proofs.Math.Option.{some}
use Rattle.algebra.specs.Tests.{at}
use Rattle.checks.specs.Left.{none_there}
use Rattle.word.specs.Setting.{allowed}
use Rattle.word.specs.Word.{marked}
use Rattle.word.specs.Codeword.{is_codeword, is_codeword_lem, in_reach}
use Rattle.word.specs.Distance.{total_zero, errors_self, bits_self}
use Rattle.word.specs.Code.{corrected}
use Rattle.word.specs.Code.Laws.{corrected_self, corrected_some}
use Rattle.word.specs.Answers.{no_figures, figures}
use Rattle.word.specs.declared.Setting.{Setting}

-- the marks of a word of n symbols, none of them set
abbrev pub no_marks : ℕ → List ℕ
no_marks n = replicate n 0

none_marked : (n : ℕ) (w : List ℕ) → marked (no_marks n) w ≡ 0
unfolding marked
none_marked n w = total_zero (length w) (at (no_marks n)) λ i l. none_there n i

-- a word that is kept has no figures
pub kept_figures : (n : ℕ) (w : List ℕ) → figures (no_marks n) w w ≡ no_figures
kept_figures n w = rw (errors_self (no_marks n) w, bits_self w, none_marked n w)

module _ (s : Setting) (w : List ℕ) where
  -- a codeword is its own correction, and what is its own correction is a codeword
  pub clean_kept : T (allowed s) → T (is_codeword s w) → corrected s (no_marks s.n) w ≡ some w
  clean_kept ok t = corrected_self s ok (no_marks s.n) w t (omega (arith, none_marked s.n w))

  pub kept_clean : (marks : List ℕ) → corrected s marks w ≡ some w → T (is_codeword s w)
  kept_clean marks e = is_codeword_lem s w (in_reach s marks w w (corrected_some s marks w w e)).code
