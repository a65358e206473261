-- A word that passes the tests of the word code is what the calls answer. The worked table then has only the tests to compute.
-- Assumes nothing.
use Rattle.std.specs.Prelude.{◌≡◌, refl, Ok, Err, List, ◌++◌, ℕ, ◌^◌, T, length}
use Rattle.algebra.specs.Tests.{below}
use Rattle.word.specs.Setting.{allowed, message_size}
use Rattle.word.specs.Codeword.{is_codeword, qualifies}
use Rattle.word.specs.Map.{changes, unchanged}
use Rattle.word.specs.Code.Laws.{corrected_only, corrected_none, encoded_only}
use Rattle.word.specs.Answers.{figures, decode_refusal}
use Rattle.word.specs.Promises.{decodes_once, encodes_once}
use Rattle.word.specs.Refusals.{Checked, checked}
use Rattle.word.specs.Met.{encode_done, decode_found, decode_lost}
use Rattle.word.specs.declared.Setting.{Setting}
use Rattle.word.specs.declared.DecodeError.TheVariants.{BeyondReach}
use Rattle.worked.specs.Gives.{EncodesTo, DecodesTo}

pub made : (s : Setting) (message checks : List ℕ) → T (allowed s) → length message ≡ message_size s → T (below (2 ^ s.m) message)
    → T (is_codeword s (message ++ checks)) → EncodesTo s message (message ++ checks)
made s message checks a n b c held left d k p =
    encodes_once p (encode_done s message held (record { setting = a; size = n; word_size = k; small = b }) (message ++ checks) (encoded_only s a message n checks c))

-- The checks look at a map's length alone: one that is all 0 stands for every map of n marks.
module _ (s : Setting) (received marks : List ℕ) (e : decode_refusal s received marks (unchanged received) ≡ 0) where
  given : Checked s marks received
  given = (checked s received marks (unchanged received) e).1

  pub found : (word : List ℕ) → T (qualifies s marks received word) → DecodesTo s received marks (Ok (figures marks received word)) word (changes received word)
  found word q held left left_map d l p =
      let only = corrected_only s given.setting marks received given.size word q in
      decodes_once p (decode_found s received marks held l given word (figures marks received word) (changes received word) only refl refl)

  pub lost : ((word : List ℕ) → T (qualifies s marks received word) → ⊥) → DecodesTo s received marks (Err BeyondReach) received (unchanged received)
  lost none held left left_map d l p = decodes_once p (decode_lost s received marks held l given (unchanged received) (corrected_none s marks received none) refl)
