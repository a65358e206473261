-- Who has the promise of decoding has its meaning, case by case. This stands here, and not in specs/, since an edit in must-fail/ turns what the map
-- of an accepted word is.
-- Assumes nothing.
use Rattle.std.specs.Prelude.{◌≡◌, refl, List, ℕ, zero, suc, ◌≤◌, length, Result, Ok, Err}
use Rattle.std.proofs.Common.{sym, subst, arith}
use Rattle.std.proofs.Math.Option.{Option, some, none}
use Rattle.word.specs.Map.{changes, unchanged}
use Rattle.word.specs.Code.{corrected}
use Rattle.word.specs.Code.Laws.{corrected_some}
use Rattle.word.specs.Answers.{figures, decode_refusal}
use Rattle.word.specs.Promises.{Decodes, decodes_once}
use Rattle.word.specs.Refusals.{Checked, checked, decode_most}
use Rattle.word.specs.Met.{decode_refused, decode_found, decode_lost}
use Rattle.word.specs.Means.{Means, none_qualifies}
use Rattle.word.specs.declared.Setting.{Setting}
use Rattle.word.specs.declared.Figures.{Figures}
use Rattle.word.specs.declared.DecodeError.{DecodeError}
use Rattle.word.specs.declared.DecodeError.TheVariants.{BadSetting, BadLength, BadSymbol, BeyondReach}

module _ (s : Setting) (received marks map : List ℕ) where
  abbrev Answered : Type 0
  Answered = (d : Result Figures DecodeError) × (left : List ℕ) × (left_map : List ℕ) × Decodes s received marks map d left left_map × Means s received marks map d left left_map

  module _ (l : length map ≡ s.n) (k : Checked s marks received) where
    found : (o : Option (List ℕ)) → corrected s marks received ≡ o → Answered
    found (some c) e = (
      Ok (figures marks received c),
      c,
      changes received c,
      decode_found s received marks map l k c (figures marks received c) (changes received c) e refl refl,
      (corrected_some s marks received c e, refl, refl),
    )
    found none e = (Err BeyondReach, received, unchanged received, decode_lost s received marks map l k (unchanged received) e refl, (refl, refl, none_qualifies s received marks map l k e))

  answered : (k : ℕ) → decode_refusal s received marks map ≡ k → k ≤ 3 → Answered
  answered zero e l = let (size, c) = checked s received marks map e in found size c (corrected s marks received) refl
  answered (suc zero) e l = (Err BadSetting, received, map, decode_refused s received marks map 1 (Err BadSetting) (sym e) (omega arith) (record { number = refl; none = refl }), (refl, refl, e))
  answered (suc (suc zero)) e l = (Err BadLength, received, map, decode_refused s received marks map 2 (Err BadLength) (sym e) (omega arith) (record { number = refl; none = refl }), (refl, refl, e))
  answered (suc (suc (suc zero))) e l = (Err BadSymbol, received, map, decode_refused s received marks map 3 (Err BadSymbol) (sym e) (omega arith) (record { number = refl; none = refl }), (refl, refl, e))
  answered (suc (suc (suc (suc k)))) e l = absurd (omega arith)

  -- who has the promise has the meaning
  pub means : (d : Result Figures DecodeError) (left left_map : List ℕ) → Decodes s received marks map d left left_map → Means s received marks map d left left_map
  means d left left_map p =
      let (d', left', map', q, m) = answered (decode_refusal s received marks map) refl (decode_most s received marks map) in
      let (x, y, z) = decodes_once q p in
      subst (λ (e : Result Figures DecodeError). Means s received marks map e left left_map) x
      (subst (λ (w : List ℕ). Means s received marks map d' w left_map) y (subst (λ (u : List ℕ). Means s received marks map d' left' u) z m))
