-- What the calls of the word code promise (document 01, Word code; document 02, No. 9): the answer in the paper's terms, with the symbols it leaves, is the one
-- that the paper gives. There is no second such answer.
-- Assumes nothing.
use Rattle.std.specs.Prelude.{◌≡◌, refl, Bool, List, ℕ, eqb, if◌then◌else◌, Result, Ok, Err}
use Rattle.std.proofs.Common.{sym, ap, ◌∙◌}
use Rattle.word.specs.Setting.{allowed}
use Rattle.word.specs.Answers.{number_of, figures_of, encoded_number, EncodeOutcome, encode_outcome, DecodeOutcome, decode_outcome, encoding, decoding, decoding_part}
use Rattle.word.specs.Clean.{clean_number, is_yes, CleanOutcome, clean_outcome, cleanness}
use Rattle.word.specs.declared.Setting.{Setting}
use Rattle.word.specs.declared.Figures.{Figures}
use Rattle.word.specs.declared.InputError.{InputError}
use Rattle.word.specs.declared.InputError.TheVariants as I
use Rattle.word.specs.declared.DecodeError.{DecodeError}
use Rattle.word.specs.declared.DecodeError.TheVariants.{BadSetting, BadLength, BadSymbol, BeyondReach}

-- `encode`
pub record Encodes (s : Setting) (message word : List ℕ) (d : Result Unit InputError) (left : List ℕ) : Type 0 where
  pub outcome : encode_outcome d left ≡ encoding s message word

-- `decode`
pub record Decodes (s : Setting) (received marks map : List ℕ) (d : Result Figures DecodeError) (left left_map : List ℕ) : Type 0 where
  pub outcome : decode_outcome d left left_map ≡ decoding s received marks map

-- `decode_part`
pub record DecodesPart (s : Setting) (received marks part map : List ℕ) (d : Result Figures DecodeError) (left left_map : List ℕ) : Type 0 where
  pub outcome : decode_outcome d left left_map ≡ decoding_part s received marks part map

-- `is_clean`
pub record IsClean (s : Setting) (word : List ℕ) (d : Result Bool InputError) : Type 0 where
  pub outcome : clean_outcome d ≡ cleanness s word

-- ---- no second answer: what the paper's terms say of an answer leaves only one

-- `is_allowed`
pub allowed_once : (s : Setting) (r t : Bool) → r ≡ allowed s → t ≡ allowed s → r ≡ t
allowed_once s r t p q = cc

-- a number from 1 to 3 tells which input was refused
input_error : ℕ → InputError
input_error k = if eqb k 1 then I.BadSetting else if eqb k 2 then I.BadLength else I.BadSymbol

encoded_as : ℕ → Result Unit InputError
encoded_as k = if eqb k 0 then Ok tt else Err (input_error k)

encoded_as_lem : (d : Result Unit InputError) → encoded_as (encoded_number d) ≡ d
unfolding encoded_as input_error
encoded_as_lem (Ok tt) = refl
encoded_as_lem (Err I.BadSetting) = refl
encoded_as_lem (Err I.BadLength) = refl
encoded_as_lem (Err I.BadSymbol) = refl

pub encodes_once : {s : Setting} {message word : List ℕ} {d e : Result Unit InputError} {x y : List ℕ}
    → Encodes s message word d x → Encodes s message word e y → (d ≡ e) × (x ≡ y)
encodes_once {d = d} {e = e} p q =
    let same = p.outcome ∙ sym q.outcome in
    (sym (encoded_as_lem d) ∙ ap (λ (o : EncodeOutcome). encoded_as o.number) same ∙ encoded_as_lem e, ap (λ (o : EncodeOutcome). o.word) same)

decoded_as : ℕ → Figures → Result Figures DecodeError
decoded_as k f = if eqb k 0 then Ok f else Err (if eqb k 1 then BadSetting else if eqb k 2 then BadLength else if eqb k 3 then BadSymbol else BeyondReach)

decoded_as_lem : (d : Result Figures DecodeError) → decoded_as (number_of d) (figures_of d) ≡ d
unfolding decoded_as
decoded_as_lem (Ok f) = refl
decoded_as_lem (Err BadSetting) = refl
decoded_as_lem (Err BadLength) = refl
decoded_as_lem (Err BadSymbol) = refl
decoded_as_lem (Err BeyondReach) = refl

answer_once : (d e : Result Figures DecodeError) (x y u v : List ℕ) → decode_outcome d x u ≡ decode_outcome e y v → (d ≡ e) × (x ≡ y) × (u ≡ v)
answer_once d e x y u v same = (
  sym (decoded_as_lem d) ∙ ap (λ (o : DecodeOutcome). decoded_as o.number o.figures) same ∙ decoded_as_lem e,
  ap (λ (o : DecodeOutcome). o.word) same,
  ap (λ (o : DecodeOutcome). o.map) same,
)

pub decodes_once : {s : Setting} {received marks map : List ℕ} {d e : Result Figures DecodeError} {x y u v : List ℕ}
    → Decodes s received marks map d x u → Decodes s received marks map e y v → (d ≡ e) × (x ≡ y) × (u ≡ v)
decodes_once p q = answer_once _ _ _ _ _ _ (p.outcome ∙ sym q.outcome)

pub decodes_part_once : {s : Setting} {received marks part map : List ℕ} {d e : Result Figures DecodeError} {x y u v : List ℕ}
    → DecodesPart s received marks part map d x u → DecodesPart s received marks part map e y v → (d ≡ e) × (x ≡ y) × (u ≡ v)
decodes_part_once p q = answer_once _ _ _ _ _ _ (p.outcome ∙ sym q.outcome)

clean_as : ℕ → Bool → Result Bool InputError
clean_as k b = if eqb k 0 then Ok b else Err (input_error k)

clean_as_lem : (d : Result Bool InputError) → clean_as (clean_number d) (is_yes d) ≡ d
unfolding clean_as input_error
clean_as_lem (Ok b) = refl
clean_as_lem (Err I.BadSetting) = refl
clean_as_lem (Err I.BadLength) = refl
clean_as_lem (Err I.BadSymbol) = refl

pub is_clean_once : {s : Setting} {word : List ℕ} {d e : Result Bool InputError} → IsClean s word d → IsClean s word e → d ≡ e
is_clean_once {d = d} {e = e} p q = sym (clean_as_lem d) ∙ ap (λ (o : CleanOutcome). clean_as o.number o.clean) (p.outcome ∙ sym q.outcome) ∙ clean_as_lem e
