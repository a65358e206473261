-- The message and the register's check symbols are the codeword that begins with the message. This stands here, and not in specs/, since an edit in
-- must-fail/ turns what `encoded` is.
-- Assumes nothing.
use Rattle.std.specs.Prelude.{◌≡◌, List, ◌++◌, ℕ, ◌^◌, T, length, take, drop}
use Rattle.std.proofs.Common.{sym, ◌∙◌, arith, take-append-drop, length-take-le}
use Rattle.algebra.specs.Tests.{below, below_split}
use Rattle.word.specs.Setting.{allowed, message_size}
use Rattle.word.specs.Code.{encoded}
use Rattle.word.specs.Code.Laws.{encoded_only}
use Rattle.word.specs.Encoding.{front, completed}
use Rattle.checks.specs.Checks.{Checks}
use Rattle.word.specs.declared.Setting.{Setting}

module _ (s : Setting) (ok : T (allowed s)) (message checks : List ℕ) (size : length message ≡ message_size s) (room : length checks ≡ 16) where
  pub encoded_front : T (below (2 ^ s.m) message) → Checks s.m s.b s.r message checks → encoded s message ≡ take s.n (message ++ checks)
  encoded_front small c = encoded_only s ok message size (take s.r checks) (completed s ok message checks size room small c) ∙ sym (front s ok message checks size room)

module _ (s : Setting) (ok : T (allowed s)) (w checks : List ℕ) (size : length w ≡ s.n) (small : T (below (2 ^ s.m) w)) (room : length checks ≡ 16)
    (c : Checks s.m s.b s.r (take (message_size s) w) checks) where
  abbrev k : ℕ
  k = message_size s

  abbrev message : List ℕ
  message = take k w

  front_size : length message ≡ k
  front_size = length-take-le k w (omega arith)

  front_small : T (below (2 ^ s.m) message)
  front_small = (below_split (2 ^ s.m) message (drop k w) (rw (take-append-drop k w) small)).0

  whole : message ++ take s.r checks ≡ encoded s message
  whole = sym (encoded_front s ok message checks front_size room front_small c ∙ front s ok message checks front_size room)
