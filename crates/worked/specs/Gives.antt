-- How document 01, "Worked table", speaks of a call: whatever result and buffers meet the call's promise at an input are those that the
-- table gives. Each premise is the contract of the call as its source states it.
-- Assumes nothing.
use Rattle.std.specs.Prelude.{◌≡◌, Result, Ok, true, List, ℕ, ◌*◌, length}
use Rattle.field.specs.Answers.{element_outcome, product_of}
use Rattle.field.specs.declared.FieldError.{FieldError}
use Rattle.word.specs.Promises.{Encodes, Decodes}
use Rattle.word.specs.declared.Setting.{Setting}
use Rattle.word.specs.declared.Figures.{Figures}
use Rattle.word.specs.declared.InputError.{InputError}
use Rattle.word.specs.declared.DecodeError.{DecodeError}
use Rattle.interleave.specs.Block.{Spread}
use Rattle.interleave.specs.Numbers.{line_number, number_of}
use Rattle.interleave.specs.Setting.{memory_size, line_at}
use Rattle.interleave.specs.Promises.{Ready, line_after, FreshSender, SendRun, FreshReceiver, ReceiveRun}
use Rattle.interleave.specs.declared.block.BlockError.{BlockError}
use Rattle.record.specs.Record.{standing, counted_as}
use Rattle.record.specs.Promises.{Notes}
use Rattle.record.specs.declared.Record.{Record}
use Rattle.record.specs.declared.Kind.{Kind}

-- `product`: x times y is z
abbrev pub Multiplies : (m x y z : ℕ) → Type 0
Multiplies m x y z = (r : Result ℕ FieldError) → element_outcome r ≡ product_of m x y → r ≡ Ok z

-- `encode`: the message becomes this word, whatever the word held
abbrev pub EncodesTo : Setting → (message word : List ℕ) → Type 0
EncodesTo s message word = (held left : List ℕ) (d : Result Unit InputError) → length held ≡ s.n → Encodes s message held d left → (d ≡ Ok tt) × (left ≡ word)

-- `decode`: the received word has this answer and is this word afterwards, with this map, whatever the map held
abbrev pub DecodesTo : Setting → (received marks : List ℕ) → Result Figures DecodeError → (word map : List ℕ) → Type 0
DecodesTo s received marks answer word map =
    (held left left_map : List ℕ) (d : Result Figures DecodeError) → length held ≡ s.n → Decodes s received marks held d left left_map → (d ≡ answer) × (left ≡ word) × (left_map ≡ map)

abbrev pub accepted : (e f bits : ℕ) → Result Figures DecodeError
accepted e f bits = Ok (record { errors = e; marked = f; bits = bits })

-- `spread`: the words go to these slots, whatever the slots held
abbrev pub SpreadsTo : (J n : ℕ) → (words slots : List ℕ) → Type 0
SpreadsTo J n words slots = (held left : List ℕ) (r : Result Unit BlockError) → length held ≡ J * n → Spread J n words held r left → (r ≡ Ok tt) × (left ≡ slots)

-- `fresh_sender`, and then `send_run`: what is put in comes out as this, whatever the memory held
abbrev pub SendsTo : (I M n : ℕ) → (bytes out : List ℕ) → Type 0
SendsTo I M n bytes out =
    (held fresh kept left : List ℕ) (r s : Ready) → length held ≡ memory_size I M
    → FreshSender I M n held r fresh → SendRun (line_after (line_at I M n 0) r) fresh bytes s kept left
    → (number_of line_number s ≡ 0) × (left ≡ out)

-- `fresh_receiver`, and then `receive_run`: bytes and marks come out as these, whatever the memories held
abbrev pub ReceivesTo : (I M n : ℕ) → (bytes marks out flags : List ℕ) → Type 0
ReceivesTo I M n bytes marks out flags =
    (held held_marks fresh fresh_marks kept kept_marks left left_marks : List ℕ) (r s : Ready) → length held ≡ memory_size I M → length held_marks ≡ memory_size I M
    → FreshReceiver I M n held held_marks r fresh fresh_marks → ReceiveRun (line_after (line_at I M n 0) r) fresh fresh_marks bytes marks s kept kept_marks left left_marks
    → (number_of line_number s ≡ 0) × (left ≡ out) × (left_marks ≡ flags)

-- `standing_of` and `note`: with this last number, an accepted frame with the new one is of this kind, and is counted so
abbrev pub Judges : (last new : ℕ) → Kind → Type 0
Judges last new kind =
    (h : Record) → h.accepted ≡ true → h.last ≡ last
    → ((k : Kind) → k ≡ standing h new → k ≡ kind) × ((after : Record) → Notes h 0 new after → after ≡ counted_as h new kind)
