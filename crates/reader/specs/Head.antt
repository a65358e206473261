-- Document 01, "Worked table": the first four bytes of the input, J, n, r and b, and how much of the input is wanted.
-- Assumes nothing.
use Rattle.std.specs.Prelude.{◌≡◌, refl, Bool, true, false, not, List, ℕ, ◌+◌, ◌≤◌, ◌<◌, ltb, length, take, if◌then◌else◌}
use Rattle.std.proofs.Common.{ap, arith, lt-ltb, le-ltb, ltb-true, ltb-false, take_all, get_or-take, length-take-le}
use Rattle.algebra.specs.Tests.{at}
use Rattle.frame.specs.Frame.{slot_count, allowed_frame}
use Rattle.frame.specs.Frame.Limits.{frame_kept, slots_few}
use Rattle.frame.specs.declared.setting.Framing.{Framing}

abbrev pub framing_of : List ℕ → Framing
framing_of input = record { depth = at input 0; n = at input 1; r = at input 2; b = at input 3 }

-- how many bytes of the input decide its text: the head, and where its setting stands the slots and one byte more, by which an input
-- that goes on is told from one that ends there
unfoldable pub wanted_of : List ℕ → ℕ
wanted_of input =
    if ltb (length input) 4 then 4 else
    if not (allowed_frame (framing_of input)) then 4 else
    4 + slot_count (framing_of input) + 1

module _ (input : List ℕ) where
  pub wanted_short : length input < 4 → 4 ≡ wanted_of input
  unfolding wanted_of
  wanted_short l = rw (lt-ltb (length input) 4 l)

  module _ (long : 4 ≤ length input) where
    pub wanted_refused : allowed_frame (framing_of input) ≡ false → 4 ≡ wanted_of input
    unfolding wanted_of
    wanted_refused a = rw (le-ltb (length input) 4 long, a)

    pub wanted_slots : allowed_frame (framing_of input) ≡ true → 4 + slot_count (framing_of input) + 1 ≡ wanted_of input
    unfolding wanted_of
    wanted_slots a = rw (le-ltb (length input) 4 long, a)

-- at least the head is wanted, and with it at most 16 words of 255 slots and one byte more
pub wanted_bounds : (input : List ℕ) (r : ℕ) → r ≡ wanted_of input → (4 ≤ r) × (r ≤ 4085)
unfolding wanted_of
wanted_bounds input r p = rw p (go (ltb (length input) 4) (allowed_frame (framing_of input)) refl)
  where
    go : (s a : Bool) → allowed_frame (framing_of input) ≡ a → let w = if s then 4 else if not a then 4 else 4 + slot_count (framing_of input) + 1 in (4 ≤ w) × (w ≤ 4085)
    go true a e = (omega arith, omega arith)
    go false false e = (omega arith, omega arith)
    go false true e = (omega arith, omega (arith, slots_few _ (frame_kept _ e)))

-- the setting stands in the first four bytes, and they tell how much is wanted
pub framing_front : (n : ℕ) (input : List ℕ) → 4 ≤ n → framing_of (take n input) ≡ framing_of input
framing_front n input l =
    rw (get_or-take n input 0 0 (omega arith), get_or-take n input 1 0 (omega arith), get_or-take n input 2 0 (omega arith), get_or-take n input 3 0 (omega arith))

long_front : (input : List ℕ) → 4 ≤ length input → wanted_of (take 4 input) ≡ wanted_of input
unfolding wanted_of
long_front input long =
    let size : length (take 4 input) ≡ 4 = length-take-le 4 input long in
    rw (le-ltb (length (take 4 input)) 4 (omega arith), le-ltb (length input) 4 long)
    (ap (λ (f : Framing). if not (allowed_frame f) then 4 else 4 + slot_count f + 1) (framing_front 4 input (omega arith)))

pub wanted_front : (input : List ℕ) → wanted_of (take 4 input) ≡ wanted_of input
wanted_front input = go (ltb (length input) 4) refl
  where
    go : (s : Bool) → ltb (length input) 4 ≡ s → wanted_of (take 4 input) ≡ wanted_of input
    go true e = rw (take_all 4 input (omega (arith, ltb-true (length input) 4 e)))
    go false e = long_front input (ltb-false (length input) 4 e)
