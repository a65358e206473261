-- A piece of text written into a lent buffer: the promise of every call that writes one. What stands before it and behind it stays.
-- Assumes nothing.
use Rattle.std.specs.Prelude.{◌≡◌, refl, List, [], ◌∷◌, ◌++◌, ℕ, ◌+◌, ◌≤◌, ◌<◌, length, take, drop, set}
use Rattle.std.proofs.Common.{sym, ap, ◌∙◌, append_assoc, append-nil, add-one, arith, length-append, length-drop, take-append-drop, length-take-le, take_at, drop-drop}
use Rattle.std.proofs.Math.Seq.{append_snoc, drop-append-add}
use Rattle.std.proofs.lemmas.List.{set_split}

-- the piece stands from `at` to `end`, where the next one goes
pub record Put (piece text : List ℕ) (at end : ℕ) (left : List ℕ) : Type 0 where
  pub room : at + length piece ≤ length text
  pub next : end ≡ at + length piece
  pub written : left ≡ take at text ++ piece ++ drop (at + length piece) text

-- no second answer
pub put_once : {piece text : List ℕ} {at r q : ℕ} {x y : List ℕ} → Put piece text at r x → Put piece text at q y → (r ≡ q) × (x ≡ y)
put_once p u = (p.next ∙ sym u.next, p.written ∙ sym u.written)

module _ (text : List ℕ) (at : ℕ) where
  pub put_none : at ≤ length text → Put [] text at at text
  put_none l =
      let e : at + 0 ≡ at = omega arith in
      record { room = omega arith; next = sym e; written = rw (e, append-nil) (sym (take-append-drop at text)) }

  pub put_one : (b : ℕ) → at < length text → Put (b ∷ []) text at (at + 1) (set text at b)
  put_one b l = record { room = omega arith; next = refl; written = rw (add-one, append_snoc) (set_split text at b l) }

-- the buffer keeps its length
pub put_size : {piece text left : List ℕ} {at end : ℕ} → Put piece text at end left → length left ≡ length text
put_size {text = text} {at = at} p =
    let l = p.room in
    ap length p.written
    ∙ simp (length-append, length-drop, length-take-le at text (omega arith)) (omega arith)

-- one piece after the other
pub put_then : {piece more text after left : List ℕ} {at end last : ℕ} → Put piece text at end after → Put more after end last left
    → Put (piece ++ more) text at last left
put_then {piece} {more} {text} {after} {at = at} {end} p q =
    let l = p.room in
    let head : length (take at text ++ piece) ≡ end = simp (length-append, length-take-le at text (omega arith)) (sym p.next) in
    let sum : at + length piece + length more ≡ at + (length piece + length more) = omega arith in
    let front : take end after ≡ take at text ++ piece = ap (take end) p.written ∙ take_at _ _ end head in
    let back : drop (end + length more) after ≡ drop (at + length (piece ++ more)) text =
    ap (drop (end + length more)) p.written
    ∙ rw (← head, drop-append-add (take at text ++ piece) (drop (at + length piece) text) (length more), drop-drop, length-append)
    (ap (λ (n : ℕ). drop n text) sum) in
    let size = put_size p in
    let m = q.room in
    let both : length (piece ++ more) ≡ length piece + length more = length-append piece more in
    record {
      room = omega (arith, p.next);
      next = omega (arith, p.next, q.next);
      written = q.written ∙ rw (front, back, append_assoc (take at text) piece more);
    }
