-- The two codes of a cross line: they are allowed settings, bytes of the right number are encoded by them, and what becomes of an inner and of an
-- outer word at the receiver (document 01, Cross line).
-- Assumes nothing.
use Rattle.std.specs.Prelude.{◌≡◌, Result, Err, List, ℕ, zero, suc, ◌≤◌, ◌<◌, T, length, take, replicate}
use Rattle.std.proofs.Math.Path.{refl, sym, ap}
use Rattle.std.proofs.Common.{◌∙◌, arith, lit<, length-take-le}
use Rattle.std.proofs.Math.Option.{Option, some, none}
use Rattle.std.proofs.lemmas.List.{length-replicate}
use Rattle.algebra.specs.Sets.{put_yes, put_no}
use Rattle.algebra.specs.Tests.{below, below_same}
use Rattle.algebra.specs.Refusal.{if_zero}
use Rattle.field.specs.Answers.{is_field}
use Rattle.word.specs.Setting.{allowed}
use Rattle.word.specs.Code.{encoded, corrected}
use Rattle.word.specs.Answers.{number_of, DecodeOutcome, decode_outcome, refused, placed, answering, part_refusal, decoding_part}
use Rattle.word.specs.Promises.{DecodesPart}
use Rattle.word.specs.Refusals.{part_passes}
use Rattle.word.specs.Met.{encoding_word}
use Rattle.word.specs.declared.Figures.{Figures}
use Rattle.word.specs.declared.DecodeError.{DecodeError}
use Rattle.word.specs.declared.DecodeError.TheVariants.{BadSetting, BadLength, BadSymbol, BeyondReach}
use Rattle.cross.specs.Cross.{outer_code, inner_code, outer_word, inner_word, opened, mark_of, passed_on, map_of, without_figures, or_zeros, closed, settled}

pub outer_allowed : T (allowed outer_code)
unfolding allowed is_field
outer_allowed = tt

pub inner_allowed : T (allowed inner_code)
unfolding allowed is_field
inner_allowed = tt

pub outer_encoded : (message : List ℕ) → length message ≡ 24 → T (below 256 message) → outer_word message ≡ encoded outer_code message
unfolding outer_word
outer_encoded message n b = encoding_word _ _ _ (record { setting = outer_allowed; size = n; word_size = length-replicate {A = ℕ} 28 0; small = b })

pub inner_encoded : (bytes lent : List ℕ) → length bytes ≡ 28 → length lent ≡ 32 → T (below 256 bytes) → inner_word bytes lent ≡ encoded inner_code bytes
unfolding inner_word
inner_encoded bytes lent n k b = encoding_word _ _ _ (record { setting = inner_allowed; size = n; word_size = k; small = b })

-- ---- the words at the receiver, by any answer that meets the decoder's promise

module _ (word : List ℕ) (n : length word ≡ 32) where
  module _ (b : T (below 256 word)) where
    inner_passes : (map : List ℕ) → length map ≡ 32 → 0 ≡ part_refusal inner_code word (replicate 32 0) (take 28 word) map
    inner_passes map l =
        part_passes inner_code word (replicate 32 0) (take 28 word) map (length-take-le 28 word (omega arith)) l
        (record { setting = inner_allowed; size = n; marks_size = length-replicate {A = ℕ} 32 0; small = b; marks_small = below_same 2 32 0 (lit< tt) })

    -- what was in the map before does not count
    any_map : (map : List ℕ) → length map ≡ 32 → decoding_part inner_code word (replicate 32 0) (take 28 word) map ≡ opened word
    unfolding opened decoding_part answering
    any_map map l = rw (← inner_passes map l, ← inner_passes (replicate 32 0) (length-replicate {A = ℕ} 32 0)) refl

    -- an inner word gives on what the decoder leaves, with mark 0, or 1 where it is refused; its map is that of the frame
    pub inner_given : (map : List ℕ) → length map ≡ 32 → (d : Result Figures DecodeError) (part left : List ℕ) → DecodesPart inner_code word (replicate 32 0) (take 28 word) map d part left
        → (if_zero (number_of d) 0 1 ≡ mark_of word) × (part ≡ passed_on word) × (left ≡ map_of word)
    inner_given map l d part left p =
        let e = p.outcome ∙ any_map map l in
        (ap (λ (o : DecodeOutcome). if_zero o.number 0 1) e, ap (λ (o : DecodeOutcome). o.word) e, ap (λ (o : DecodeOutcome). o.map) e)

  -- by the number that the checks give, and by what the word is corrected to
  abbrev outcome : ℕ → Option (List ℕ) → DecodeOutcome
  outcome k c = if_zero k (placed (take 28) (replicate 32 0) word (take 28 word) c) (refused k (take 28 word) (replicate 32 0))

  zeros_where_refused : (k : ℕ) (c : Option (List ℕ)) → ◌≡◌ {A = ℕ} (if_zero (outcome k c).number 0 1) 1 → (outcome k c).map ≡ replicate 32 0
  zeros_where_refused zero none e = ap (λ (k : ℕ). replicate {A = ℕ} k 0) n
  zeros_where_refused zero (some c) e = absurd (omega arith)
  zeros_where_refused (suc k) c e = refl

  -- The map of a refused inner word is all 0.
  pub map_of_refused : mark_of word ≡ 1 → map_of word ≡ replicate 32 0
  unfolding opened decoding_part answering
  map_of_refused = zeros_where_refused (part_refusal inner_code word (replicate 32 0) (take 28 word) (replicate 32 0)) (corrected inner_code (replicate 32 0) word)

-- a refused outer word is 4 and zeros
pub outer_refused : (e : DecodeError) (part map : List ℕ) → without_figures 4 (replicate 24 0) ≡ or_zeros (decode_outcome (Err e) part map)
outer_refused BadSetting part map = refl
outer_refused BadLength part map = refl
outer_refused BadSymbol part map = refl
outer_refused BeyondReach part map = refl

module _ (bytes marks message : List ℕ) where
  -- an outer word is its message and figures, or 4 and zeros
  pub outer_given : (d : Result Figures DecodeError) (part map : List ℕ) → DecodesPart outer_code bytes marks message (replicate 28 0) d part map → or_zeros (decode_outcome d part map) ≡ closed bytes marks message
  unfolding closed
  outer_given d part map p = ap or_zeros p.outcome

  module _ (p : ℕ) where
    pub settled_early : p < 108 → without_figures 7 message ≡ settled p bytes marks message
    unfolding settled
    settled_early h = sym (put_yes _ _ _ h)

    pub settled_late : 108 ≤ p → closed bytes marks message ≡ settled p bytes marks message
    unfolding settled
    settled_late h = sym (put_no _ _ _ λ l. omega arith)
