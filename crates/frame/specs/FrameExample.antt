-- Document 01, "Worked table": the frame of the bench reader's example, as it was sent and as it was received.
-- Assumes nothing.
use Rattle.std.specs.Prelude.{◌≡◌, refl, List, [], ◌∷◌, ℕ, T, replicate}
use Rattle.std.proofs.Common.{sym, ◌∙◌, lit≤}
use Rattle.std.proofs.Math.Option.{some}
use Rattle.std.specs.Int.Count.{ones, ones_in}
use Rattle.algebra.specs.Xor.{◌⊕◌}
use Rattle.algebra.specs.Tests.{total, each, below, first_below}
use Rattle.algebra.specs.Lists.{tabulate, joined}
use Rattle.algebra.specs.Refusal.{new}
use Rattle.field.specs.Field.{times, reduce, product, power}
use Rattle.field.specs.Answers.{is_field}
use Rattle.word.specs.Setting.{allowed}
use Rattle.word.specs.Word.{value_from, error_of, errors, marked, bits}
use Rattle.word.specs.Map.{change_of, changes}
use Rattle.word.specs.Codeword.{is_codeword, qualifies}
use Rattle.word.specs.Code.{encoded}
use Rattle.word.specs.Code.Laws.{corrected_only, encoded_only}
use Rattle.word.specs.Answers.{no_figures}
use Rattle.word.specs.declared.Setting.{Setting}
use Rattle.word.specs.declared.Figures.{Figures}
use Rattle.interleave.specs.Slots.{spread_rule, word_rule}
use Rattle.frame.specs.Frame.{allowed_frame, area_sent, word_sent, slots_sent, sending, corrected_word, message_of, figures_at, beyond, area_received, figures_received, changes_at, map_received, zeros_before, trailer_good, payload_in, settled, decoded_frame, receiving}
use Rattle.frame.specs.Frame.Limits.{FrameAllowed, frame_kept}
use Rattle.frame.specs.Checks.{receive_passes}
use Rattle.frame.specs.Sending.{send_done}
use Rattle.frame.specs.declared.setting.Framing.{Framing}

-- J = 2, n = 5, r = 2, b = 0
abbrev pub example : Framing
example = record { depth = 2; n = 5; r = 2; b = 0 }

abbrev five : Setting
five = record { m = 8; n = 5; r = 2; b = 0 }

allowed_five : T (allowed five)
unfolding allowed is_field
allowed_five = tt

example_allowed : FrameAllowed example
unfolding allowed_frame allowed is_field
example_allowed = frame_kept example refl

-- ---- sent: payload 65, sequence number 258

encoded_0 : encoded five (0 ∷ 65 ∷ 1 ∷ []) ≡ 0 ∷ 65 ∷ 1 ∷ 217 ∷ 153 ∷ []
unfolding below is_codeword each value_from ◌⊕◌ times reduce product power
encoded_0 = encoded_only five allowed_five (0 ∷ 65 ∷ 1 ∷ []) refl (217 ∷ 153 ∷ []) tt

encoded_1 : encoded five (0 ∷ 2 ∷ 1 ∷ []) ≡ 0 ∷ 2 ∷ 1 ∷ 13 ∷ 14 ∷ []
unfolding below is_codeword each value_from ◌⊕◌ times reduce product power
encoded_1 = encoded_only five allowed_five (0 ∷ 2 ∷ 1 ∷ []) refl (13 ∷ 14 ∷ []) tt

abbrev pub slots_out : List ℕ
slots_out = 0 ∷ 0 ∷ 65 ∷ 2 ∷ 1 ∷ 1 ∷ 217 ∷ 13 ∷ 153 ∷ 14 ∷ []

pub sent_example : sending example (65 ∷ []) 258 (replicate 10 0) ≡ record { number = 0; slots = slots_out }
unfolding slots_sent word_sent area_sent joined tabulate
sent_example =
    sym (send_done example (65 ∷ []) 258 (replicate 10 0) (record { limits = example_allowed; slots_size = refl; fits = lit≤ tt }) slots_out
    (rw (encoded_0, encoded_1, spread_rule))).outcome

-- ---- received: slots 2 and 3 were 65 and 2

abbrev pub slots_in : List ℕ
slots_in = 0 ∷ 0 ∷ 0 ∷ 0 ∷ 1 ∷ 1 ∷ 217 ∷ 13 ∷ 153 ∷ 14 ∷ []

abbrev figures : ℕ → ℕ → ℕ → Figures
figures e f k = record { errors = e; marked = f; bits = k }

corrected_0 : corrected_word example slots_in (replicate 10 0) 0 ≡ some (0 ∷ 65 ∷ 1 ∷ 217 ∷ 153 ∷ [])
unfolding corrected_word tabulate below qualifies is_codeword each value_from error_of errors marked total ◌⊕◌ times reduce product power
corrected_0 = simp word_rule (corrected_only five allowed_five (replicate 5 0) (0 ∷ 0 ∷ 1 ∷ 217 ∷ 153 ∷ []) refl (0 ∷ 65 ∷ 1 ∷ 217 ∷ 153 ∷ []) tt)

corrected_1 : corrected_word example slots_in (replicate 10 0) 1 ≡ some (0 ∷ 2 ∷ 1 ∷ 13 ∷ 14 ∷ [])
unfolding corrected_word tabulate below qualifies is_codeword each value_from error_of errors marked total ◌⊕◌ times reduce product power
corrected_1 = simp word_rule (corrected_only five allowed_five (replicate 5 0) (0 ∷ 0 ∷ 1 ∷ 13 ∷ 14 ∷ []) refl (0 ∷ 2 ∷ 1 ∷ 13 ∷ 14 ∷ []) tt)

within_reach : beyond example slots_in (replicate 10 0) ≡ 2
unfolding beyond first_below
within_reach = rw (corrected_0, corrected_1)

area : area_received example slots_in (replicate 10 0) ≡ 0 ∷ 65 ∷ 1 ∷ 0 ∷ 2 ∷ 1 ∷ []
unfolding area_received joined message_of
area = rw (corrected_0, corrected_1)

figures_0 : figures_at example slots_in (replicate 10 0) 0 ≡ figures 1 0 2
unfolding figures_at tabulate error_of errors marked bits total ones ones_in ◌⊕◌
figures_0 = simp (corrected_0, word_rule)

figures_1 : figures_at example slots_in (replicate 10 0) 1 ≡ figures 1 0 1
unfolding figures_at tabulate error_of errors marked bits total ones ones_in ◌⊕◌
figures_1 = simp (corrected_1, word_rule)

found : figures_received example slots_in (replicate 10 0) ≡ figures 1 0 2 ∷ figures 1 0 1 ∷ replicate 14 no_figures
unfolding figures_received tabulate
found = rw (figures_0, figures_1)

changes_0 : changes_at example slots_in (replicate 10 0) 0 ≡ 0 ∷ 1 ∷ 0 ∷ 0 ∷ 0 ∷ []
unfolding changes_at changes change_of tabulate
changes_0 = simp (corrected_0, word_rule)

changes_1 : changes_at example slots_in (replicate 10 0) 1 ≡ 0 ∷ 1 ∷ 0 ∷ 0 ∷ 0 ∷ []
unfolding changes_at changes change_of tabulate
changes_1 = simp (corrected_1, word_rule)

map : map_received example slots_in (replicate 10 0) ≡ 0 ∷ 0 ∷ 1 ∷ 1 ∷ replicate 6 0
unfolding map_received joined tabulate
map = rw (changes_0, changes_1, spread_rule)

pub received_example : receiving example slots_in (replicate 10 0) (replicate 6 0) (replicate 10 0) ≡ record {
  number = 0;
  word = 0;
  sequence = 258;
  back = 1;
  figures = figures 1 0 2 ∷ figures 1 0 1 ∷ replicate 14 no_figures;
  area = 0 ∷ 65 ∷ 1 ∷ 0 ∷ 2 ∷ 1 ∷ [];
  payload = 65 ∷ [];
  map = 0 ∷ 0 ∷ 1 ∷ 1 ∷ replicate 6 0;
}
unfolding receiving decoded_frame below settled trailer_good zeros_before each payload_in figures_received map_received joined tabulate
received_example =
    let passed = receive_passes example slots_in (replicate 10 0) (replicate 6 0) (replicate 10 0)
    (record { limits = example_allowed; slots_size = refl; marks_size = refl; marks_small = tt; area_size_lem = refl; map_size = refl }) in
    sym (new _ _ _ (sym passed)) ∙ rw (within_reach, area, figures_0, figures_1, changes_0, changes_1, spread_rule)
