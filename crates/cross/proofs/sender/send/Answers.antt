-- `send` meets its contract: refused, all stays; else outer word, delay and inner word are what its parts promise.
use Rattle.std.proofs.Common.{◌≡◌, refl, sym, ap, ◌∙◌, List, ℕ, length, arith, rules}
use Rattle.std.proofs.lemmas.List.{length-replicate}
use Rattle.interleave.specs.Numbers.{passed}
use Rattle.word.specs.Answers.{EncodeOutcome}
use Rattle.cross.specs.Numbers.{cross_error}
use Rattle.cross.specs.Cross.{outer_word, inner_word}
use Rattle.cross.specs.Checks.{send_fine}
use Rattle.cross.proofs.sender.send.Goals as goal

pub hold_back-requires : goal.hold_back-requires
hold_back-requires c =
    let framed = c.filled-bytes in
    let f = send_fine _ _ _ _ _ (sym (passed cross_error _ _ _ c.in_ok-check_send.ensures)) refl in
    let size : length c.encode.new.word ≡ length framed.result = search rules in
    (f.memory_size, size ∙ ap (λ (l : List ℕ). length l) framed.ensures ∙ length-replicate {A = ℕ} 28 0)

pub next-requires : goal.next-requires
next-requires c = omega (arith, (send_fine _ _ _ _ _ (sym (passed cross_error _ _ _ c.in_ok-check_send.ensures)) refl).position)

pub returns : goal.returns
unfolding outer_word inner_word
returns c =
    let z = passed cross_error _ _ _ c.in_ok-check_send.ensures in
    let outer = ap (λ (o : EncodeOutcome). o.word) (rw (c.outer_code.ensures, c.filled-bytes.ensures) at c.encode.ensures.outcome) in
    let (memory, bytes) = rw outer at c.hold_back.ensures in
    let inner = ap (λ (o : EncodeOutcome). o.word) (rw (c.inner_code.ensures, bytes) at c.encode-2.ensures.outcome) in
    record { outcome = rw (z, c.next.ensures, memory, inner) refl }
