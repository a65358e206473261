-- One word whose slots are within the bound: what the promises of `decode` and `decode_part` say of it.
-- Assumes nothing.
use Rattle.std.specs.Prelude.{◌≡◌, refl, Result, Ok, List, ℕ, ◌^◌, ◌<◌, length, take, T}
use Rattle.std.proofs.Common.{ap, arith, lit<}
use Rattle.std.proofs.Math.Option.{some}
use Rattle.algebra.specs.Tests.{at, below, below_at, below_all}
use Rattle.algebra.specs.Lists.{tabulate, length_tabulate, get_or_tabulate}
use Rattle.word.specs.Setting.{allowed, message_size}
use Rattle.word.specs.Map.{changes}
use Rattle.word.specs.Codeword.{is_codeword, qualifies, codeword, is_in_reach}
use Rattle.word.specs.Code.{encoded, corrected}
use Rattle.word.specs.Code.Laws.{qualifies_once, corrected_only, encoded_codeword, encoded_begins}
use Rattle.word.specs.Answers.{number_of, figures}
use Rattle.word.specs.Promises.{Decodes, DecodesPart, decodes_once, decodes_part_once}
use Rattle.word.specs.Refusals.{Checked}
use Rattle.word.specs.Met.{decode_found, part_found}
use Rattle.word.specs.declared.Setting.{Setting}
use Rattle.word.specs.declared.DecodeError.{DecodeError}
use Rattle.word.specs.declared.Figures.{Figures}
use Rattle.coverage.specs.Channel.{Channel, Within}

-- some slots of a channel, one for each place, are a channel's too
module _ (n : ℕ) (slot : ℕ → ℕ) {size : ℕ} (slots marks : List ℕ) (c : Channel size slots marks) where
  picked_below : (q : ℕ) (x : List ℕ) → 0 < q → T (below q x) → T (below q (tabulate n λ p. at x (slot p)))
  picked_below q x pos t = below_all q (tabulate n λ p. at x (slot p)) λ p u. rw (get_or_tabulate n (λ p. at x (slot p)) p 0 (omega (arith, length_tabulate n (λ p. at x (slot p))))) (below_at q x t (slot p) pos)

  pub picked : Channel n (tabulate n λ p. at slots (slot p)) (tabulate n λ p. at marks (slot p))
  picked = record {
    slots_size = length_tabulate n _;
    marks_size = length_tabulate n _;
    bytes = picked_below 256 slots (lit< tt) c.bytes;
    zero_or_one = picked_below 2 marks (lit< tt) c.zero_or_one;
  }

-- ---- a message and its word

module _ (s : Setting) (ok : T (allowed s)) where
  module _ (message : List ℕ) (size : length message ≡ message_size s) (bytes : T (below (2 ^ s.m) message)) where
    pub encoded_code : T (is_codeword s (encoded s message))
    encoded_code = encoded_codeword s ok message size bytes

    pub encoded_size : length (encoded s message) ≡ s.n
    encoded_size = (codeword s (encoded s message) encoded_code).size

    pub encoded_message : take (message_size s) (encoded s message) ≡ message
    encoded_message = rw (← size) (encoded_begins s message)

-- ---- a codeword and what came of it

pub record Came (s : Setting) (sent came marks : List ℕ) : Type 0 where
  pub code : T (is_codeword s sent)
  pub near : Within s.r sent came marks
  pub size : length came ≡ s.n
  pub marks_size : length marks ≡ s.n
  pub bytes : T (below (2 ^ s.m) came)
  pub zero_or_one : T (below 2 marks)

-- a word of bytes, in the slots of a channel
pub came_in : (s : Setting) → s.m ≡ 8 → (sent came marks : List ℕ) → T (is_codeword s sent) → Within s.r sent came marks → Channel s.n came marks → Came s sent came marks
came_in s eight sent came marks code near c = record {
  code = code;
  near = near;
  size = c.slots_size;
  marks_size = c.marks_size;
  bytes = rw eight c.bytes;
  zero_or_one = c.zero_or_one;
}

module _ (s : Setting) (ok : T (allowed s)) (marks came : List ℕ) where
  module _ (sent : List ℕ) (c : Came s sent came marks) where
    sent_near : T (qualifies s marks came sent)
    sent_near = is_in_reach s marks came sent (record { code = codeword s sent c.code; bound = c.near })

    pub word_corrected : corrected s marks came ≡ some sent
    word_corrected = corrected_only s ok marks came c.size sent sent_near

    checks : Checked s marks came
    checks = record { setting = ok; size = c.size; marks_size = c.marks_size; small = c.bytes; marks_small = c.zero_or_one }

    module _ (lent_map : List ℕ) (n : length lent_map ≡ s.n) where
      -- every answer that meets the promise of `decode` is Ok, and leaves the codeword that was sent
      pub word_decoded : (d : Result Figures DecodeError) (word map : List ℕ) → Decodes s came marks lent_map d word map → (number_of d ≡ 0) × (word ≡ sent)
      word_decoded d word map p =
          let (x, y, _) = decodes_once p (decode_found s came marks lent_map n checks sent (figures marks came sent) (changes came sent) word_corrected refl refl) in
          (ap number_of x, y)

      -- what `decode_part` promises of it
      pub part_given : (lent : List ℕ) → length lent ≡ message_size s → DecodesPart s came marks lent lent_map (Ok (figures marks came sent)) (take (message_size s) sent) (changes came sent)
      part_given lent k = part_found s came marks lent lent_map k n checks sent (figures marks came sent) (changes came sent) word_corrected refl refl

      -- and every one that meets that of `decode_part` is Ok, and leaves its message
      pub part_decoded : (d : Result Figures DecodeError) (lent part map : List ℕ) → length lent ≡ message_size s → DecodesPart s came marks lent lent_map d part map → (number_of d ≡ 0) × (part ≡ take (message_size s) sent)
      part_decoded d lent part map k p =
          let (x, y, _) = decodes_part_once p (part_given lent k) in
          (ap number_of x, y)

  -- two codewords that may both come so are one
  pub word_once : (c d : List ℕ) → Came s c came marks → Came s d came marks → c ≡ d
  word_once c d p q = qualifies_once s ok marks came p.size c d (sent_near c p) (sent_near d q)
