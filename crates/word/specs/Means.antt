-- The promise of decoding read case by case: what a caller knows of each answer. That who has the promise has this stands in proofs/Means.antt.
-- Assumes nothing.
use Rattle.std.specs.Prelude.{◌≡◌, List, ℕ, T, length, Result, Ok, Err}
use Rattle.std.proofs.Common.{sym, ◌∙◌, arith}
use Rattle.std.proofs.Math.Option.{some, none}
use Rattle.word.specs.Codeword.{qualifies}
use Rattle.word.specs.Map.{changes, unchanged}
use Rattle.word.specs.Code.{corrected}
use Rattle.word.specs.Code.Laws.{corrected_only}
use Rattle.word.specs.Answers.{figures, decode_refusal}
use Rattle.word.specs.Refusals.{Checked}
use Rattle.word.specs.declared.Setting.{Setting}
use Rattle.word.specs.declared.Figures.{Figures}
use Rattle.word.specs.declared.DecodeError.{DecodeError}
use Rattle.word.specs.declared.DecodeError.TheVariants.{BadSetting, BadLength, BadSymbol, BeyondReach}

-- what each answer means
abbrev pub Means : Setting → (received marks map : List ℕ) → Result Figures DecodeError → (left left_map : List ℕ) → Type 0
Means s received marks map (Ok f) left left_map = T (qualifies s marks received left) × (f ≡ figures marks received left) × (left_map ≡ changes received left)
Means s received marks map (Err BadSetting) left left_map = (left ≡ received) × (left_map ≡ map) × (decode_refusal s received marks map ≡ 1)
Means s received marks map (Err BadLength) left left_map = (left ≡ received) × (left_map ≡ map) × (decode_refusal s received marks map ≡ 2)
Means s received marks map (Err BadSymbol) left left_map = (left ≡ received) × (left_map ≡ map) × (decode_refusal s received marks map ≡ 3)
Means s received marks map (Err BeyondReach) left left_map = (left ≡ received) × (left_map ≡ unchanged received) × ((c : List ℕ) → T (qualifies s marks received c) → ⊥)

module _ (s : Setting) (received marks map : List ℕ) where
  module _ (l : length map ≡ s.n) (k : Checked s marks received) where
    pub none_qualifies : corrected s marks received ≡ none → (c : List ℕ) → T (qualifies s marks received c) → ⊥
    none_qualifies e c t =
        let x : some c ≡ none = sym (corrected_only s k.setting marks received k.size c t) ∙ e in
        let z : ◌≡◌ {A = ℕ} 0 1 = cc in
        omega arith
