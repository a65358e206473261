-- The word code's calls for C (document 01, Word code; document 02, No. 9): the setting, what is seen of an answer, what each call promises, and that no call
-- has a second answer.
-- Assumes nothing.
use Rattle.std.specs.Prelude.{◌≡◌, refl, Result, Bool, List, ℕ}
use Rattle.algebra.specs.Tests.{one_if}
use Rattle.word.specs.Setting.{allowed}
use Rattle.word.specs.Answers.{number_of, figures_of, encoded_number}
use Rattle.word.specs.Clean.{clean_number, is_yes}
use Rattle.word.specs.Promises.{Encodes, Decodes, DecodesPart, IsClean, encodes_once, decodes_once, decodes_part_once, is_clean_once}
use Rattle.word.specs.declared.Setting.{Setting}
use Rattle.word.specs.declared.Figures.{Figures}
use Rattle.word.specs.declared.InputError.{InputError}
use Rattle.word.specs.declared.DecodeError.{DecodeError}
use Rattle.radio.specs.Shown.{Shows, shown_once}
use Rattle.radio.specs.declared.words.CodeSetting.{CodeSetting}
use Rattle.radio.specs.declared.words.WordAnswer.{WordAnswer}
use Rattle.radio.specs.declared.words.WordClean.{WordClean}

abbrev pub code_of : CodeSetting → Setting
code_of s = record { m = s.m; n = s.n; r = s.r; b = s.b }

abbrev pub decoded_seen : Result Figures DecodeError → WordAnswer
decoded_seen d = record { answer = number_of d; figures = figures_of d }

abbrev pub clean_seen : Result Bool InputError → WordClean
clean_seen d = record { answer = clean_number d; clean = one_if (is_yes d) }

-- ---- the promises, each of the call below with what is seen of its answer

abbrev pub WordEncode : CodeSetting → List ℕ → List ℕ → ℕ → List ℕ → Type 0
WordEncode s message word r left = Shows encoded_number (λ d. Encodes (code_of s) message word d left) r

abbrev pub WordDecode : CodeSetting → (received marks map : List ℕ) → WordAnswer → (left left_map : List ℕ) → Type 0
WordDecode s received marks map r left left_map = Shows decoded_seen (λ d. Decodes (code_of s) received marks map d left left_map) r

abbrev pub WordDecodePart : CodeSetting → (received marks part map : List ℕ) → WordAnswer → (left left_map : List ℕ) → Type 0
WordDecodePart s received marks part map r left left_map = Shows decoded_seen (λ d. DecodesPart (code_of s) received marks part map d left left_map) r

abbrev pub WordIsClean : CodeSetting → List ℕ → WordClean → Type 0
WordIsClean s word r = Shows clean_seen (IsClean (code_of s) word) r

-- ---- no second answer: of each call's answer, and of what it leaves in the lent word or part and in the map

pub word_is_allowed_once : (s : CodeSetting) (r q : Bool) → r ≡ allowed (code_of s) → q ≡ allowed (code_of s) → r ≡ q
word_is_allowed_once s r q p u = cc

module _ (s : CodeSetting) where
  pub word_encode_once : (message word : List ℕ) (r q : ℕ) (x y : List ℕ) → WordEncode s message word r x → WordEncode s message word q y → (r ≡ q) × (x ≡ y)
  word_encode_once message word r q x y p u =
      let (e, l) = encodes_once p.promised u.promised in
      (shown_once p u refl e, l)

  pub word_decode_once : (received marks map : List ℕ) (r q : WordAnswer) (x y x' y' : List ℕ)
      → WordDecode s received marks map r x x' → WordDecode s received marks map q y y' → (r ≡ q) × (x ≡ y) × (x' ≡ y')
  word_decode_once received marks map r q x y x' y' p u =
      let (e, l, m) = decodes_once p.promised u.promised in
      (shown_once p u refl e, l, m)

  pub word_decode_part_once : (received marks part map : List ℕ) (r q : WordAnswer) (x y x' y' : List ℕ)
      → WordDecodePart s received marks part map r x x' → WordDecodePart s received marks part map q y y' → (r ≡ q) × (x ≡ y) × (x' ≡ y')
  word_decode_part_once received marks part map r q x y x' y' p u =
      let (e, l, m) = decodes_part_once p.promised u.promised in
      (shown_once p u refl e, l, m)

  pub word_is_clean_once : (word : List ℕ) (r q : WordClean) → WordIsClean s word r → WordIsClean s word q → r ≡ q
  word_is_clean_once word r q p u = shown_once p u refl (is_clean_once p.promised u.promised)
