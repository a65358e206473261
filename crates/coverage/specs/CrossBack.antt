-- What it says that messages sent over a cross line come back 108 frames later, as long as no inner word has more than two wrong bytes
-- (document 01, Cross line). It speaks of the promises of the line's calls; proofs/CrossBack.antt proves it. Assumes nothing.
use Rattle.std.specs.Prelude.{◌≡◌, List, ℕ, ◌+◌, ◌≤◌, ◌<◌, T, replicate}
use Rattle.algebra.specs.Tests.{below}
use Rattle.word.specs.Word.{errors}
use Rattle.cross.specs.Cross.{without_figures, received}
use Rattle.cross.specs.Calls.{SenderCalls}
use Rattle.cross.specs.Promises.{FrameAnswer}

-- ---- the statement

-- messages of bytes were sent over a cross line in these words
pub record CrossSent (many : ℕ) (messages words : ℕ → List ℕ) : Type 0 where
  pub calls : SenderCalls many messages words
  pub bytes : (F : ℕ) → F < many → T (below 256 (messages F))

-- what came of the words: in each at most two bytes are not as sent
pub record CrossArrives (many : ℕ) (messages came : ℕ → List ℕ) : Type 0 where
  pub words : ℕ → List ℕ
  pub sent : CrossSent many messages words
  pub bytes : (F : ℕ) → F < many → T (below 256 (came F))
  pub near : (F : ℕ) → F < many → errors (replicate 32 0) (came F) (words F) ≤ 2

-- frame F + 108 is answered 0 with message F, and nothing was left for the outer code to correct
abbrev pub CrossComesBack : ℕ → (ℕ → List ℕ) → (ℕ → FrameAnswer) → (ℕ → List ℕ) → Type 0
CrossComesBack many messages answers back = (F : ℕ) → F + 108 < many → received (answers (F + 108)) (back (F + 108)) ≡ without_figures 0 (messages F)
