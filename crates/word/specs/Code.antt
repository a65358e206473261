-- Document 01, "Word code": the codeword that begins with a message, and the codeword that a received word is corrected to. Both are
-- found by plain search, as the paper's "the one that" reads; nothing ever computes them, and what is known of them is in Code.Laws.
-- Assumes nothing.
use Rattle.std.proofs.Math.Option.{Option, get_or}
use Rattle.std.specs.Prelude.{List, [], ◌++◌, ℕ, ◌^◌}
use Rattle.word.specs.Codeword.{is_codeword, qualifies}
use Rattle.word.specs.Search.{search}
use Rattle.word.specs.declared.Setting.{Setting}
pub mod Laws

-- the message with the check symbols that make it a codeword
pub encoded : Setting → List ℕ → List ℕ
encoded s message = message ++ get_or (search (2 ^ s.m) s.r λ checks. is_codeword s (message ++ checks)) []

-- the codeword with 2e + f ≤ r, where there is one
pub corrected : Setting → List ℕ → List ℕ → Option (List ℕ)
corrected s marks received = search (2 ^ s.m) s.n (qualifies s marks received)
