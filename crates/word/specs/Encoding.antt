-- The message and the register's check symbols are a codeword; so a word is clean exactly if it is a codeword. That they are the encoded message
-- stands in proofs/Encoding.antt.
-- Assumes nothing.
use Rattle.std.specs.Prelude.{◌≡◌, List, ◌++◌, ℕ, ◌+◌, ◌^◌, ◌<◌, T, length, take, drop}
use Rattle.std.proofs.Common.{sym, ap, ◌∙◌, subst, arith, length-append, take-append-drop, length-take-le, get_or-take}
use Rattle.std.proofs.Math.Seq.{take-append-add}
use Rattle.algebra.specs.Tests.{at, below, below_all, below_append, below_split}
use Rattle.word.specs.Setting.{allowed, Allowed, limits, message_size}
use Rattle.word.specs.Codeword.{Codeword, is_codeword, codeword, is_codeword_lem}
use Rattle.word.specs.Distance.{own_field}
use Rattle.word.specs.Completion.{codeword_from}
use Rattle.word.specs.Code.Laws.{checks_once}
use Rattle.checks.specs.Checks.{Checks}
use Rattle.word.specs.declared.Setting.{Setting}

module _ (s : Setting) (ok : T (allowed s)) (message checks : List ℕ) (size : length message ≡ message_size s) (room : length checks ≡ 16) where
  abbrev a : Allowed s
  a = limits s ok

  sized : length (take s.r checks) ≡ s.r
  sized = length-take-le s.r checks (omega (arith, a.high))

  pub front : take s.n (message ++ checks) ≡ message ++ take s.r checks
  front =
      let e : s.n ≡ length message + s.r = omega (arith, a.room) in
      ap (λ (k : ℕ). take k (message ++ checks)) e ∙ take-append-add message checks s.r

  pub completed : T (below (2 ^ s.m) message) → Checks s.m s.b s.r message checks → T (is_codeword s (message ++ take s.r checks))
  completed small c =
      is_codeword_lem s (message ++ take s.r checks)
      (codeword_from s a (message ++ take s.r checks) (length-append message (take s.r checks) ∙ omega (arith, sized, a.room))
      (below_append (2 ^ s.m) message (take s.r checks) small
      (below_all (2 ^ s.m) (take s.r checks) λ i l. rw (get_or-take s.r checks i 0 (omega (arith, sized)))
      (subst (λ (k : ℕ). at checks i < 2 ^ k) (own_field s a) (c.below i))))
      c.zeros)

-- A word is a codeword exactly where the check symbols of its message are those that stand behind it.
module _ (s : Setting) (ok : T (allowed s)) (w checks : List ℕ) (size : length w ≡ s.n) (small : T (below (2 ^ s.m) w)) (room : length checks ≡ 16)
    (c : Checks s.m s.b s.r (take (message_size s) w) checks) where
  abbrev k : ℕ
  k = message_size s

  abbrev message : List ℕ
  message = take k w

  front_size : length message ≡ k
  front_size = length-take-le k w (omega arith)

  front_small : T (below (2 ^ s.m) message)
  front_small = (below_split (2 ^ s.m) message (drop k w) (rw (take-append-drop k w) small)).0

  own : T (is_codeword s (message ++ take s.r checks))
  own = completed s ok message checks front_size room front_small c

  pub clean_is_codeword : take s.r checks ≡ drop k w → Codeword s w
  clean_is_codeword e = subst (Codeword s) (ap (λ (v : List ℕ). message ++ v) e ∙ take-append-drop k w) (codeword s (message ++ take s.r checks) own)

  pub codeword_is_clean : Codeword s w → take s.r checks ≡ drop k w
  codeword_is_clean h =
      checks_once s ok message front_size (take s.r checks) (drop k w) own (subst (λ (v : List ℕ). T (is_codeword s v)) (sym (take-append-drop k w)) (is_codeword_lem s w h))
