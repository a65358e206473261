-- Document 01, "Word code": the figures e, f and bits.
-- Assumes nothing.
use Rattle.std.specs.Prelude.{◌≡◌, Bool, ◌&&◌, not, List, ◌∷◌, ◌≢◌, ℕ, ◌+◌, eqb, length}
use Rattle.std.proofs.Math.Path.{refl}
use Rattle.std.proofs.Common.{◌≤◌, arith}
use mir.Val.{bool_byte}
use Rattle.std.proofs.Math.Bool.{true, false}
use borrow.Author.Tests.{eq-eqb, ne_eqb}
use Rattle.std.specs.Int.Count.{ones}
use Rattle.algebra.specs.Xor.{◌⊕◌}
use Rattle.algebra.specs.Tests.{at, total, total_first, one_if}

-- 1 where a place's mark is 0 and its two symbols differ, else 0
unfoldable pub error_of : (mark x y : ℕ) → ℕ
error_of mark x y = one_if (eqb mark 0 && not (eqb x y))

-- 1 where place i is unmarked and the two words differ there, else 0
abbrev pub error_at : (marks received word : List ℕ) → ℕ → ℕ
error_at marks received word i = error_of (at marks i) (at received i) (at word i)

-- e: the unmarked places where the two words differ
unfoldable pub errors : (marks received word : List ℕ) → ℕ
errors marks received word = total (length received) (error_at marks received word)

-- f: the marks, each 0 or 1
unfoldable pub marked : (marks received : List ℕ) → ℕ
marked marks received = total (length received) (at marks)

-- how many bits of the two words differ at place i
abbrev pub bits_at : (received word : List ℕ) → ℕ → ℕ
bits_at received word i = ones (at received i ⊕ at word i)

-- bits: the ones in the exclusive or of the two words
unfoldable pub bits : (received word : List ℕ) → ℕ
bits received word = total (length received) (bits_at received word)

-- a test as a number, as the code counts it
pub bit_of : (b : Bool) → (bool_byte b ≡ one_if b) × (bool_byte b ≤ 1)
bit_of true = (refl, omega arith)
bit_of false = (refl, omega arith)

-- ---- an error at one place

module _ (mark x y : ℕ) where
  pub error_of_marked : mark ≢ 0 → error_of mark x y ≡ 0
  unfolding error_of
  error_of_marked ne = rw (ne_eqb mark 0 ne)

  pub error_of_same : x ≡ y → error_of mark x y ≡ 0
  unfolding error_of
  error_of_same e = rw (eq-eqb x y e) (nothing (eqb mark 0))
    where
      nothing : (b : Bool) → one_if (b && false) ≡ 0
      nothing true = refl
      nothing false = refl

  pub error_of_wrong : mark ≡ 0 → x ≢ y → error_of mark x y ≡ 1
  unfolding error_of
  error_of_wrong e ne = rw (eq-eqb mark 0 e, ne_eqb x y ne)

-- ---- the errors, where their sum has reached the end

pub errors_to : (marks received word : List ℕ) (i : ℕ) → i ≡ length received → total i (error_at marks received word) ≡ errors marks received word
unfolding errors
errors_to marks received word i e = rw e

-- ---- the bits, from the first place on

pub bits_first : (x y : ℕ) (received word : List ℕ) → bits (x ∷ received) (y ∷ word) ≡ ones (x ⊕ y) + bits received word
unfolding bits
bits_first x y received word = total_first (length received) (bits_at (x ∷ received) (y ∷ word))

pub bits_none : (received word : List ℕ) → length received ≡ 0 → bits received word ≡ 0
unfolding bits total
bits_none received word e = rw e refl
