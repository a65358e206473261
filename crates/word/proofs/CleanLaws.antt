-- Clean and corrected, of the two calls: a word is clean exactly where `decode` with no marks accepts it and changes nothing. This stands here, and not in
-- specs/, since it rests on what proofs/Means.antt says.
-- Assumes nothing.
use Rattle.std.specs.Prelude.{◌≡◌, Bool, true, List, ℕ, T, length, Result, Ok, Err}
use Rattle.std.proofs.Common.{sym, ◌∙◌, subst, arith}
use Rattle.std.proofs.lemmas.List.{length-replicate}
use Rattle.algebra.specs.Tests.{below_same, passed}
use Rattle.word.specs.Codeword.{is_codeword, is_codeword_lem, in_reach}
use Rattle.word.specs.Map.{unchanged}
use Rattle.word.specs.Map.Laws.{changes_self}
use Rattle.word.specs.Answers.{no_figures, number_of}
use Rattle.word.specs.Clean.{is_yes}
use Rattle.word.specs.Clean.Laws.{no_marks, kept_figures, clean_kept}
use Rattle.word.specs.Promises.{Decodes, IsClean, decodes_once}
use Rattle.word.specs.Refusals.{Checked, WordChecked}
use Rattle.word.specs.Met.{decode_found, clean_tells}
use Rattle.word.specs.Means.{Means}
use Rattle.word.proofs.Means.{means}
use Rattle.word.specs.declared.Setting.{Setting}
use Rattle.word.specs.declared.Figures.{Figures}
use Rattle.word.specs.declared.InputError.{InputError}
use Rattle.word.specs.declared.DecodeError.{DecodeError}
use Rattle.word.specs.declared.DecodeError.TheVariants.{BadSetting, BadLength, BadSymbol, BeyondReach}

module _ (s : Setting) (w : List ℕ) where
  -- the same of the two calls
  module _ (c : WordChecked s w) (map : List ℕ) (size : length map ≡ s.n) (d : Result Bool InputError) (p : IsClean s w d) (e : Result Figures DecodeError) (left left_map : List ℕ)
      (q : Decodes s w (no_marks s.n) map e left left_map) where
    checks : Checked s (no_marks s.n) w
    checks = record { setting = c.setting; size = c.size; marks_size = length-replicate s.n 0; small = c.small; marks_small = below_same 2 s.n 0 (omega arith) }

    told : (b : Bool) → is_yes d ≡ b → is_codeword s w ≡ b
    told b y = sym (clean_tells s w c d p) ∙ y

    pub clean_decodes : is_yes d ≡ true → (e ≡ Ok no_figures) × (left ≡ w) × (left_map ≡ unchanged w)
    clean_decodes y =
        let t : T (is_codeword s w) = rw (told true y) tt in
        decodes_once q (decode_found s w (no_marks s.n) map size checks w no_figures (unchanged w) (clean_kept s w c.setting t) (sym (kept_figures s.n w)) (changes_self w))

    -- who accepts the word as it is calls it clean
    accepted : (e : Result Figures DecodeError) → number_of e ≡ 0 → left ≡ w → Means s w (no_marks s.n) map e left left_map → T (is_codeword s w)
    accepted (Ok f) z g m = subst (λ (v : List ℕ). T (is_codeword s v)) g (is_codeword_lem s left (in_reach s (no_marks s.n) w left m.0).code)
    accepted (Err BadSetting) z g m = absurd (omega arith)
    accepted (Err BadLength) z g m = absurd (omega arith)
    accepted (Err BadSymbol) z g m = absurd (omega arith)
    accepted (Err BeyondReach) z g m = absurd (omega arith)

    pub decodes_clean : number_of e ≡ 0 → left ≡ w → is_yes d ≡ true
    decodes_clean z g = clean_tells s w c d p ∙ passed (is_codeword s w) (accepted e z g (means s w (no_marks s.n) map e left left_map q))
