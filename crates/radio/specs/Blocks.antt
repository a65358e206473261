-- The block interleaver's calls for C (document 01, Block interleaver and frame): what is seen of an answer, what each call promises, and that no
-- call has a second answer.
-- Assumes nothing.
use Rattle.std.specs.Prelude.{◌≡◌, refl, Result, List, ℕ, length}
use Rattle.std.proofs.Common.{◌∙◌}
use Rattle.interleave.specs.Numbers.{block_number, number_of}
use Rattle.interleave.specs.Block.{block_refusal, Spread, Gather, spread_once, gather_once, spread_number, gather_number}
use Rattle.interleave.specs.declared.block.BlockError.{BlockError}
use Rattle.radio.specs.Shown.{Shows, shown_once}

abbrev pub moved_seen : Result Unit BlockError → ℕ
moved_seen d = number_of block_number d

-- ---- the promises, each of the call below with what is seen of its answer

module _ (J n : ℕ) where
  abbrev pub BlockSpread : (words slots : List ℕ) → ℕ → List ℕ → Type 0
  BlockSpread words slots r left = Shows moved_seen (λ d. Spread J n words slots d left) r

  abbrev pub BlockGather : (slots words : List ℕ) → ℕ → List ℕ → Type 0
  BlockGather slots words r left = Shows moved_seen (λ d. Gather J n slots words d left) r

-- ---- the number that is seen is the paper's

module _ (J n : ℕ) where
  pub block_spread_number : {words slots : List ℕ} {r : ℕ} {left : List ℕ} → BlockSpread J n words slots r left → r ≡ block_refusal J n (length words) (length slots)
  block_spread_number p = p.same ∙ spread_number J n _ _ p.inner _ p.promised

  pub block_gather_number : {slots words : List ℕ} {r : ℕ} {left : List ℕ} → BlockGather J n slots words r left → r ≡ block_refusal J n (length slots) (length words)
  block_gather_number p = p.same ∙ gather_number J n _ _ p.inner _ p.promised

-- ---- no second answer: of each call's answer, and of what it leaves in the lent slots or words

module _ (J n : ℕ) where
  pub block_spread_once : (words slots : List ℕ) (r q : ℕ) (x y : List ℕ) → BlockSpread J n words slots r x → BlockSpread J n words slots q y → (r ≡ q) × (x ≡ y)
  block_spread_once words slots r q x y p u =
      let (e, l) = spread_once J n words slots p.inner u.inner x y p.promised u.promised in
      (shown_once p u refl e, l)

  pub block_gather_once : (slots words : List ℕ) (r q : ℕ) (x y : List ℕ) → BlockGather J n slots words r x → BlockGather J n slots words q y → (r ≡ q) × (x ≡ y)
  block_gather_once slots words r q x y p u =
      let (e, l) = gather_once J n slots words p.inner u.inner x y p.promised u.promised in
      (shown_once p u refl e, l)
