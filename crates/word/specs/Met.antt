-- How each promise of the word code is met: the answers one by one, as a proof of the code gives them; and what a caller knows of `encode` and
-- of `is_clean`.
-- Assumes nothing.
use Rattle.std.specs.Prelude.{◌≡◌, refl, Bool, false, List, ℕ, ◌<◌, length, take, Result, Ok, Err}
use Rattle.std.proofs.Math.Path.{sym, ap}
use Rattle.std.proofs.Common.{◌∙◌, arith}
use Rattle.std.proofs.Math.Option.{some, none}
use Rattle.algebra.specs.Refusal.{new, kept}
use Rattle.word.specs.Setting.{message_size}
use Rattle.word.specs.Map.{changes, unchanged}
use Rattle.word.specs.Code.{encoded, corrected}
use Rattle.word.specs.Answers.{number_of, figures_of, encoded_number, input_number, decode_error, no_figures, EncodeOutcome, decode_outcome, refused, encode_refusal, encoding, figures, placed, answering, decode_refusal, decoding, part_refusal, decoding_part}
use Rattle.word.specs.Codeword.{is_codeword}
use Rattle.word.specs.Clean.{clean_number, is_yes, CleanOutcome, clean_refusal, cleanness}
use Rattle.word.specs.Promises.{Encodes, Decodes, DecodesPart, IsClean, encodes_once}
use Rattle.word.specs.Refusals.{MessageChecked, message_passes, Checked, passes, part_passes, WordChecked, word_passes}
use Rattle.word.specs.declared.Setting.{Setting}
use Rattle.word.specs.declared.Figures.{Figures}
use Rattle.word.specs.declared.InputError.{InputError}
use Rattle.word.specs.declared.InputError.TheVariants as I
use Rattle.word.specs.declared.DecodeError.{DecodeError}
use Rattle.word.specs.declared.DecodeError.TheVariants.{BeyondReach}

-- a refusal's number is not 0
some_number : (e : InputError) → 0 < input_number e
some_number I.BadSetting = omega arith
some_number I.BadLength = omega arith
some_number I.BadSymbol = omega arith

-- ---- encoding

module _ (s : Setting) (message word : List ℕ) where
  pub encode_refused : (k : ℕ) (d : Result Unit InputError) → k ≡ encode_refusal s message word → 0 < k → encoded_number d ≡ k → Encodes s message word d word
  unfolding encoding
  encode_refused k d e h r = record { outcome = rw (r, e) (kept (encode_refusal s message word) _ _ (omega arith)) }

  -- by a check
  pub encode_checks : (e : InputError) → encoded_number (Err e) ≡ encode_refusal s message word → Encodes s message word (Err e) word
  encode_checks e h = encode_refused (input_number e) (Err e) h (some_number e) refl

  pub encode_done : MessageChecked s message word → (w : List ℕ) → encoded s message ≡ w → Encodes s message word (Ok tt) w
  unfolding encoding
  encode_done c w e = record { outcome = rw (← e) (new (encode_refusal s message word) _ _ (sym (message_passes s message word c))) }

  -- once the checks are passed, every answer that meets the promise is Ok, and the word is the encoding
  pub encodes_gives : MessageChecked s message word → {d : Result Unit InputError} {left : List ℕ} → Encodes s message word d left → (d ≡ Ok tt) × (left ≡ encoded s message)
  encodes_gives c p = encodes_once p (encode_done c (encoded s message) refl)

  pub encoding_word : MessageChecked s message word → (encoding s message word).word ≡ encoded s message
  encoding_word c = sym (ap (λ (o : EncodeOutcome). o.word) (encode_done c (encoded s message) refl).outcome)

-- ---- decoding

-- an answer whose number is a check's refusal, and which has no figures
pub record Refuses (k : ℕ) (d : Result Figures DecodeError) : Type 0 where
  pub number : number_of d ≡ k
  pub none : figures_of d ≡ no_figures

-- decoding passes on what its checks refuse
passed_on : (e : InputError) → Refuses (input_number e) (Err (decode_error e))
passed_on I.BadSetting = record { number = refl; none = refl }
passed_on I.BadLength = record { number = refl; none = refl }
passed_on I.BadSymbol = record { number = refl; none = refl }

refuses_outcome : (k : ℕ) (d : Result Figures DecodeError) (w map : List ℕ) → Refuses k d → decode_outcome d w map ≡ refused k w map
refuses_outcome k d w map r = rw (r.number, r.none)

module _ (s : Setting) (received marks : List ℕ) (place : List ℕ → List ℕ) (lent map : List ℕ) where
  pub answering_refused : (k z : ℕ) (d : Result Figures DecodeError) → k ≡ z → 0 < k → Refuses k d → decode_outcome d lent map ≡ answering s received marks z place lent map
  unfolding answering
  answering_refused k z d e h r = refuses_outcome k d lent map r ∙ rw e (kept z _ _ (omega arith))

  module _ (z : ℕ) (e : 0 ≡ z) where
    looked_at : placed place marks received lent (corrected s marks received) ≡ answering s received marks z place lent map
    unfolding answering
    looked_at = new z _ _ (sym e)

    -- a word that is corrected is answered as its correction is placed
    pub answering_some : (w : List ℕ) → corrected s marks received ≡ some w → placed place marks received lent (some w) ≡ answering s received marks z place lent map
    answering_some w g = sym (ap (placed place marks received lent) g) ∙ looked_at

    pub answering_found : (w : List ℕ) (f : Figures) (u : List ℕ) → corrected s marks received ≡ some w → f ≡ figures marks received w → u ≡ changes received w
        → decode_outcome (Ok f) (place w) u ≡ answering s received marks z place lent map
    answering_found w f u g h m = rw (h, m) (answering_some w g)

    pub answering_none : (u : List ℕ) → corrected s marks received ≡ none → u ≡ unchanged received → decode_outcome (Err BeyondReach) lent u ≡ answering s received marks z place lent map
    answering_none u g m = rw m (sym (ap (placed place marks received lent) g) ∙ looked_at)

module _ (s : Setting) (received marks map : List ℕ) where
  pub decode_refused : (k : ℕ) (d : Result Figures DecodeError) → k ≡ decode_refusal s received marks map → 0 < k → Refuses k d → Decodes s received marks map d received map
  unfolding decoding
  decode_refused k d e h r = record { outcome = answering_refused s received marks _ received map k _ d e h r }

  -- by a check
  pub decode_checks : (e : InputError) → encoded_number (Err e) ≡ decode_refusal s received marks map → Decodes s received marks map (Err (decode_error e)) received map
  decode_checks e h = decode_refused (input_number e) (Err (decode_error e)) h (some_number e) (passed_on e)

  module _ (l : length map ≡ s.n) (c : Checked s marks received) where
    pub decode_found : (w : List ℕ) (f : Figures) (u : List ℕ) → corrected s marks received ≡ some w → f ≡ figures marks received w → u ≡ changes received w
        → Decodes s received marks map (Ok f) w u
    unfolding decoding
    decode_found w f u g h m = record { outcome = rw (h, m) (answering_some s received marks (λ c. c) received map _ (passes s received marks map l c) w g) }

    pub decode_lost : (u : List ℕ) → corrected s marks received ≡ none → u ≡ unchanged received → Decodes s received marks map (Err BeyondReach) received u
    unfolding decoding
    decode_lost u g m = record { outcome = answering_none s received marks _ received map _ (passes s received marks map l c) u g m }

module _ (s : Setting) (received marks part map : List ℕ) where
  pub part_refused : (k : ℕ) (d : Result Figures DecodeError) → k ≡ part_refusal s received marks part map → 0 < k → Refuses k d → DecodesPart s received marks part map d part map
  unfolding decoding_part
  part_refused k d e h r = record { outcome = answering_refused s received marks _ part map k _ d e h r }

  -- by a check
  pub part_checks : (e : InputError) → encoded_number (Err e) ≡ part_refusal s received marks part map → DecodesPart s received marks part map (Err (decode_error e)) part map
  part_checks e h = part_refused (input_number e) (Err (decode_error e)) h (some_number e) (passed_on e)

  module _ (n : length part ≡ message_size s) (l : length map ≡ s.n) (c : Checked s marks received) where
    pub part_found : (w : List ℕ) (f : Figures) (u : List ℕ) → corrected s marks received ≡ some w → f ≡ figures marks received w → u ≡ changes received w
        → DecodesPart s received marks part map (Ok f) (take (message_size s) w) u
    unfolding decoding_part
    part_found w f u g h m = record { outcome = rw (h, m) (answering_some s received marks (take (message_size s)) part map _ (part_passes s received marks part map n l c) w g) }

    pub part_lost : (u : List ℕ) → corrected s marks received ≡ none → u ≡ unchanged received → DecodesPart s received marks part map (Err BeyondReach) part u
    unfolding decoding_part
    part_lost u g m = record { outcome = answering_none s received marks _ part map _ (part_passes s received marks part map n l c) u g m }

-- ---- asking whether a word is clean

module _ (s : Setting) (word : List ℕ) where
  pub clean_refused : (k : ℕ) (d : Result Bool InputError) → k ≡ clean_refusal s word → 0 < k → clean_number d ≡ k → is_yes d ≡ false → IsClean s word d
  unfolding cleanness
  clean_refused k d e h n b = record { outcome = rw (n, b, e) (kept (clean_refusal s word) _ _ (omega arith)) }

  -- by a check
  pub clean_checks : (e : InputError) → encoded_number (Err e) ≡ clean_refusal s word → IsClean s word (Err e)
  clean_checks e h = clean_refused (input_number e) (Err e) h (some_number e) refl refl

  pub clean_told : WordChecked s word → (d : Result Bool InputError) → clean_number d ≡ 0 → is_yes d ≡ is_codeword s word → IsClean s word d
  unfolding cleanness
  clean_told c d n b = record { outcome = rw (n, b) (new (clean_refusal s word) _ _ (sym (word_passes s word c))) }

  -- and what a caller knows of the answer where the checks are passed
  pub clean_tells : WordChecked s word → (d : Result Bool InputError) → IsClean s word d → is_yes d ≡ is_codeword s word
  unfolding cleanness
  clean_tells c d p = ap (λ (o : CleanOutcome). o.clean) (p.outcome ∙ sym (new (clean_refusal s word) _ _ (sym (word_passes s word c))))
