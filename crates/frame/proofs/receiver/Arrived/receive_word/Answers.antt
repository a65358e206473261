-- `receive_word` meets its contract: the word and its marks are taken from their slots, the decoder's promise says the rest, and its map is put.
use mathlib.Core.Path.{sym}
use native.Mathlib.Omega.{arith}
use Rattle.std.proofs.Common.{length-take-le}
use Rattle.frame.specs.Decoding.{frame_taken, word_checked, word_told, word_put, word_kept}
use Rattle.frame.proofs.receiver.Arrived.receive_word.Goals as goal

pub decode_part_by-requires : goal.decode_part_by-requires
decode_part_by-requires c =
    let self = c.args.self.now in
    let taken = frame_taken _ _ _ self.limits self.slots_size self.marks_size self.marks_small in
    rw c.words.ensures (word_checked _ _ _ _ taken _ _ c.take_word-word.ensures c.marks_of-marked.ensures, self.tabled, c.requires.part_size, length-take-le _ _ (omega arith))

pub returns-in_err-own : goal.returns-in_err-own
returns-in_err-own c =
    let self = c.args.self.now in
    let taken = frame_taken _ _ _ self.limits self.slots_size self.marks_size self.marks_small in
    let told = word_told _ _ _ _ taken _ _ c.requires.part_size (length-take-le _ _ (omega arith)) _ _ c.take_word-word.ensures c.marks_of-marked.ensures _ _ _ (rw c.words.ensures at c.decode_part_by.ensures) in
    rw c.from_residual.ensures (rw (sym c.in_err-own.ensures.value) at told)

pub returns-then-own-ne0 : goal.returns-then-own-ne0
returns-then-own-ne0 c =
    let self = c.args.self.now in
    let taken = frame_taken _ _ _ self.limits self.slots_size self.marks_size self.marks_small in
    let told = word_told _ _ _ _ taken _ _ c.requires.part_size (length-take-le _ _ (omega arith)) _ _ c.take_word-word.ensures c.marks_of-marked.ensures _ _ _ (rw c.words.ensures at c.decode_part_by.ensures) in
    word_put _ _ _ _ _ _ _ _ _ (rw (sym c.in_ok-own.ensures.value) at told) c.put_word.ensures

pub returns-else-own-ne0 : goal.returns-else-own-ne0
returns-else-own-ne0 c =
    let self = c.args.self.now in
    let taken = frame_taken _ _ _ self.limits self.slots_size self.marks_size self.marks_small in
    let told = word_told _ _ _ _ taken _ _ c.requires.part_size (length-take-le _ _ (omega arith)) _ _ c.take_word-word.ensures c.marks_of-marked.ensures _ _ _ (rw c.words.ensures at c.decode_part_by.ensures) in
    word_kept _ _ _ _ _ _ _ _ c.requires.turn c.requires.blank c.if-own-ne0.false (rw (sym c.in_ok-own.ensures.value) at told)
