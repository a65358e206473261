-- What a channel does to slots, and the damage that the words in them bear (document 01, Word code and Delay line).
-- Assumes nothing.
use Rattle.std.specs.Prelude.{◌≡◌, List, [], ◌∷◌, ℕ, ◌+◌, ◌*◌, ◌/◌, ◌≤◌, ◌<◌, length, get_or, T}
use Rattle.algebra.specs.Tests.{at, below}
use Rattle.algebra.specs.Lists.{tabulate, joined}
use Rattle.word.specs.Word.{errors, marked}
use Rattle.coverage.specs.Runs.{Hit, Clear}

-- as many slots come as were sent, each a byte with a mark of 0 or 1
pub record Channel (size : ℕ) (slots marks : List ℕ) : Type 0 where
  pub slots_size : length slots ≡ size
  pub marks_size : length marks ≡ size
  pub bytes : T (below 256 slots)
  pub zero_or_one : T (below 2 marks)

-- lists one after the other: the words that a line is fed with, and the slots of frames
abbrev pub end_to_end : List (List ℕ) → List ℕ
end_to_end lists = joined (length lists) λ i. get_or lists i []

-- ---- words in slots

-- how words lie in slots: so many words of n symbols, r of them check symbols, with place p of word w in slot `slot w p`
pub record Layout : Type 0 where
  pub words : ℕ
  pub n : ℕ
  pub r : ℕ
  pub slot : ℕ → ℕ → ℕ

-- word w of the slots
abbrev pub word_of : Layout → List ℕ → ℕ → List ℕ
word_of y slots w = tabulate y.n λ p. at slots (y.slot w p)

-- what holds of every slot that carries a word; the others are free
abbrev pub OnWords : Layout → (ℕ → Type 0) → Type 0
OnWords y P = (w p : ℕ) → w < y.words → p < y.n → P (y.slot w p)

-- ---- damage

-- the bound, for one word: twice the unmarked wrong symbols plus the marked ones is at most r
abbrev pub Within : ℕ → (sent came marks : List ℕ) → Type 0
Within r sent came marks = 2 * errors marks came sent + marked marks came ≤ r

-- every word is within the bound
abbrev pub AllWithin : Layout → (sent slots marks : List ℕ) → Type 0
AllWithin y sent slots marks = (w : ℕ) → w < y.words → Within y.r (word_of y sent w) (word_of y slots w) (word_of y marks w)

-- t: half the check symbols, rounded down
abbrev pub half : ℕ → ℕ
half r = r / 2

-- unmarked runs, each a first slot and a length, and no other damage to the words: none of their slots is marked, and those outside the runs
-- are as sent
pub record Struck (y : Layout) (runs : List (ℕ × ℕ)) (sent slots marks : List ℕ) : Type 0 where
  pub unmarked : OnWords y λ s. at marks s ≡ 0
  pub clean : OnWords y λ s. ¬ Hit runs s → at slots s ≡ at sent s

-- one unmarked run of up to depth · t slots, alone, wherever it falls; ..
pub record OneRun (depth : ℕ) (y : Layout) (sent slots marks : List ℕ) : Type 0 where
  pub start : ℕ
  pub size : ℕ
  pub short : size ≤ depth * half y.r
  pub alone : Struck y ((start, size) ∷ []) sent slots marks

-- .. and several, with a gap of clean slots between them
pub record SomeRuns (depth gap : ℕ) (y : Layout) (sent slots marks : List ℕ) : Type 0 where
  pub runs : List (ℕ × ℕ)
  pub apart : Clear (depth * half y.r) gap runs
  pub alone : Struck y runs sent slots marks

-- marked runs of up to depth · r slots and no other damage to the words: of their slots only those in the runs are marked, and the unmarked ones
-- are as sent
pub record MarkedRuns (depth gap : ℕ) (y : Layout) (sent slots marks : List ℕ) : Type 0 where
  pub runs : List (ℕ × ℕ)
  pub apart : Clear (depth * y.r) gap runs
  pub zero_or_one : OnWords y λ s. at marks s ≤ 1
  pub outside : OnWords y λ s. ¬ Hit runs s → at marks s ≡ 0
  pub clean : OnWords y λ s. at marks s ≡ 0 → at slots s ≡ at sent s

-- such damage leaves every word within the bound
abbrev pub Covered : Layout → (Layout → (sent slots marks : List ℕ) → Type 0) → Type 0
Covered y Damage = (sent slots marks : List ℕ) → Damage y sent slots marks → AllWithin y sent slots marks
