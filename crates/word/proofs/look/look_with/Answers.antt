-- `look_with` meets its contract: more marks than check symbols are one law of `Looked`; message and check symbols are the word, and what it leaves over are the others.
use mathlib.Core.Path.{◌≡◌, sym, ap, ◌∙◌, subst}
use mathlib.Core.List.{List, ◌++◌}
use Prim.Native.Nat.{ℕ, ◌-◌, ◌≤◌}
use native.Mathlib.Omega.{arith}
use lib.ListN.{length, take, drop, length-drop, take-append-drop}
use lib.Seq.{length-take-le, take-length}
use Rattle.algebra.specs.Lists.{Filled}
use Rattle.checks.specs.Checks.{Checks}
use Rattle.checks.specs.Left.{LeftOver, Padded, left_at, left_over}
use Rattle.word.specs.Setting.{limits}
use Rattle.word.specs.Looking.{looked_lost, looked_clean, looked_damaged}
use borrow.Author.Rules.{rules}
use Rattle.word.proofs.look.look_with.Goals as goal

-- a word is its first k symbols and what is behind them
module _ (m b r n : ℕ) (w : List ℕ) (room : r ≤ n) (size : length w ≡ n) where
  abbrev k : ℕ
  k = n - r

  tail-size : length (take (length w - k) (drop k w)) ≡ r
  tail-size = length-take-le (length w - k) (drop k w) (omega (arith, length-drop k w)) ∙ omega arith

  cut : take k w ++ take (length w - k) (drop k w) ≡ w
  cut = ap (λ (v : List ℕ). take k w ++ v) (ap (λ (i : ℕ). take i (drop k w)) (sym (length-drop k w)) ∙ take-length (drop k w)) ∙ take-append-drop k w

  left_cut : (checks received rest : List ℕ) → r ≤ 16 → length checks ≡ 16 → Checks m b r (take k w) checks → Padded (take (length w - k) (drop k w)) (length (take (length w - k) (drop k w))) received
      → Filled 16 (left_at checks received) 16 rest
      → LeftOver m b r w (take r rest)
  left_cut checks received rest few sixteen c p h =
      subst (λ (v : List ℕ). LeftOver m b r v (take r rest)) cut (left_over m b r (take k w) (take (length w - k) (drop k w)) checks received rest few tail-size sixteen c (rw tail-size at p) h)

pub returns-then-s-f : goal.returns-then-s-f
returns-then-s-f g c = looked_lost _ _ _ c.requires.checked _ c.count_marks-f.ensures.0 c.if-s-f.true

pub returns-then-all_below : goal.returns-then-all_below
returns-then-all_below g c =
    let given = c.requires.checked in
    let limit = limits _ given.setting in
    looked_clean _ _ _ given _ c.count_marks-f.ensures.0 (omega arith) _
    (left_cut _ _ _ _ _ (omega (arith, limit.room)) given.size _ _ _ limit.high (search rules) (c.requires.given _ (search rules)) c.padded.ensures c.left_over-rest.ensures)
    (sym c.if-all_below.true ∙ c.all_below.ensures) _ c.figures.ensures

pub returns : goal.returns
returns g c =
    let given = c.requires.checked in
    let limit = limits _ given.setting in
    looked_damaged _ _ _ given _ c.count_marks-f.ensures.0 (omega arith) _
    (left_cut _ _ _ _ _ (omega (arith, limit.room)) given.size _ _ _ limit.high (search rules) (c.requires.given _ (search rules)) c.padded.ensures c.left_over-rest.ensures)
