-- Document 01, "Numbers a call can answer": this paper's number and values for each answer, and what encoding and decoding answer and
-- leave, for every input. Each argument stands where it stands in the call.
-- Assumes nothing.
use Rattle.std.proofs.Math.Option.{Option, some, none}
use Rattle.std.specs.Prelude.{List, ℕ, ◌^◌, length, take, Result, Ok, Err}
use Rattle.std.proofs.Math.Decide.{ℕ_discrete}
use Rattle.algebra.specs.Tests.{below}
use Rattle.algebra.specs.Refusal.{need, if_zero, passes}
use Rattle.word.specs.Setting.{allowed, message_size}
use Rattle.word.specs.Word.{errors, marked, bits}
use Rattle.word.specs.Map.{changes, unchanged}
use Rattle.word.specs.Code.{encoded, corrected}
use Rattle.word.specs.declared.Setting.{Setting}
use Rattle.word.specs.declared.Figures.{Figures}
use Rattle.word.specs.declared.InputError.{InputError}
use Rattle.word.specs.declared.InputError.TheVariants as I
use Rattle.word.specs.declared.DecodeError.{DecodeError}
use Rattle.word.specs.declared.DecodeError.TheVariants.{BadSetting, BadLength, BadSymbol, BeyondReach}

-- ---- the code's answers in this paper's terms

abbrev pub input_number : InputError → ℕ
input_number I.BadSetting = 1
input_number I.BadLength = 2
input_number I.BadSymbol = 3

abbrev pub decode_number : DecodeError → ℕ
decode_number BadSetting = 1
decode_number BadLength = 2
decode_number BadSymbol = 3
decode_number BeyondReach = 4

-- a refused input, as decoding refuses it
abbrev pub decode_error : InputError → DecodeError
decode_error I.BadSetting = BadSetting
decode_error I.BadLength = BadLength
decode_error I.BadSymbol = BadSymbol

abbrev pub number_of : Result Figures DecodeError → ℕ
number_of (Ok f) = 0
number_of (Err e) = decode_number e

abbrev pub no_figures : Figures
no_figures = record { errors = 0; marked = 0; bits = 0 }

abbrev pub figures_of : Result Figures DecodeError → Figures
figures_of (Ok f) = f
figures_of (Err e) = no_figures

abbrev pub encoded_number : Result Unit InputError → ℕ
encoded_number (Ok u) = 0
encoded_number (Err e) = input_number e

-- what `encode` answers, with the word that it leaves
pub record EncodeOutcome : Type 0 where
  pub number : ℕ
  pub word : List ℕ

abbrev pub encode_outcome : Result Unit InputError → List ℕ → EncodeOutcome
encode_outcome d left = record { number = encoded_number d; word = left }

-- what `decode` and `decode_part` answer, with the word or part and the map that they leave
pub record DecodeOutcome : Type 0 where
  pub number : ℕ
  pub figures : Figures
  pub word : List ℕ
  pub map : List ℕ

abbrev pub decode_outcome : Result Figures DecodeError → (left map : List ℕ) → DecodeOutcome
decode_outcome d left map = record { number = number_of d; figures = figures_of d; word = left; map = map }

abbrev pub refused : ℕ → (lent map : List ℕ) → DecodeOutcome
refused k lent map = record { number = k; figures = no_figures; word = lent; map = map }

-- ---- encoding

-- checked in the order 1, 2, 3; 0 where all are passed
unfoldable pub encode_refusal : Setting → (message word : List ℕ) → ℕ
encode_refusal s message word =
    need (passes (allowed s)) 1
    (need (ℕ_discrete (length message) (message_size s)) 2 (need (ℕ_discrete (length word) s.n) 2
    (need (passes (below (2 ^ s.m) message)) 3 0)))

-- a refusal leaves the word
unfoldable pub encoding : Setting → (message word : List ℕ) → EncodeOutcome
encoding s message word =
    let k = encode_refusal s message word in
    if_zero k (record { number = 0; word = encoded s message }) (record { number = k; word = word })

-- ---- decoding

-- e, f and bits of a received word and what it is corrected to
abbrev pub figures : List ℕ → List ℕ → List ℕ → Figures
figures marks received c = record { errors = errors marks received c; marked = marked marks received; bits = bits received c }

-- a corrected word goes where `place` puts it, with its map; where there is none the answer is 4, what was lent is left, and no place changed
abbrev pub placed : (List ℕ → List ℕ) → List ℕ → List ℕ → List ℕ → Option (List ℕ) → DecodeOutcome
placed place marks received lent none = refused 4 lent (unchanged received)
placed place marks received lent (some c) = record { number = 0; figures = figures marks received c; word = place c; map = changes received c }

-- what a received word is answered where its checks give this number; a refusal by them leaves the map too
unfoldable pub answering : Setting → (received marks : List ℕ) → ℕ → (List ℕ → List ℕ) → (lent map : List ℕ) → DecodeOutcome
answering s received marks number place lent map = if_zero number (placed place marks received lent (corrected s marks received)) (refused number lent map)

-- all three lengths are n; every symbol is below 2^m, and every mark 0 or 1
unfoldable pub decode_refusal : Setting → (received marks map : List ℕ) → ℕ
decode_refusal s received marks map =
    need (passes (allowed s)) 1
    (need (ℕ_discrete (length received) s.n) 2 (need (ℕ_discrete (length marks) s.n) 2 (need (ℕ_discrete (length map) s.n) 2
    (need (passes (below (2 ^ s.m) received)) 3 (need (passes (below 2 marks)) 3 0)))))

-- in place: the corrected word is written over the received one
unfoldable pub decoding : Setting → (received marks map : List ℕ) → DecodeOutcome
decoding s received marks map = answering s received marks (decode_refusal s received marks map) (λ c. c) received map

-- and the part's length is k
unfoldable pub part_refusal : Setting → (received marks part map : List ℕ) → ℕ
part_refusal s received marks part map =
    need (passes (allowed s)) 1 (need (ℕ_discrete (length part) (message_size s)) 2 (decode_refusal s received marks map))

-- the received word only read: the corrected word's k message symbols are written to the lent part
unfoldable pub decoding_part : Setting → (received marks part map : List ℕ) → DecodeOutcome
decoding_part s received marks part map = answering s received marks (part_refusal s received marks part map) (take (message_size s)) part map
