-- The pieces of a text as they are written on a page: digits, names and bytes in base sixteen.
-- Assumes nothing.
use Rattle.std.specs.Prelude.{◌≡◌, List, [], ◌∷◌, ℕ, ◌+◌, ◌*◌, ◌/◌, ◌%◌, ◌≤◌, ◌<◌, length, get_or, take}
use Rattle.std.proofs.Common.{ap, ◌∙◌, arith, take_all, length-take-le}
use Rattle.text.specs.Page.{Writes, WritesWithin, writes_then, writes_size, writes_end, writes_none}
use Rattle.text.specs.Text.{digit, decimal, hex, hexes}
use Rattle.text.specs.Text.Decimal.{decimal_one, decimal_more}
use Rattle.text.specs.Text.Hex.{hexes_more, hexes_size}
use Rattle.text.specs.declared.Page.{Page}

-- ---- a number

-- its last digit, behind the digits of its tenth part where there are any
module _ (n last : ℕ) {turned after : Page} (e : last ≡ digit (n % 10)) (q : Writes (last ∷ []) turned after) {before : Page} where
  pub writes_digit : n < 10 → turned ≡ before → Writes (decimal n) before after
  writes_digit l s =
      let alone : digit n ≡ last = omega (arith, e) in
      rw (decimal_one n l, alone, ← s) q

  pub writes_last : {between : Page} → 10 ≤ n → Writes (decimal (n / 10)) before between → turned ≡ between → Writes (decimal n) before after
  writes_last l p s = rw (decimal_more n l, ← e) (writes_then p (rw s at q))

-- ---- bytes in base sixteen

module _ (bytes : List ℕ) (before : Page) where
  pub hexes_begun : before.end ≤ length before.text.now → Writes (hexes (take 0 bytes)) before before
  unfolding hexes
  hexes_begun room = writes_none before room

  module _ (i : ℕ) (after : Page) (p : Writes (hexes (take i bytes)) before after) where
    -- the next byte has room
    pub hexes_room : before.end + 2 * length bytes ≤ length before.text.now → i < length bytes → after.end + 2 ≤ length after.text.now
    hexes_room room l =
        let size = hexes_size (take i bytes) ∙ ap (λ (n : ℕ). 2 * n) (length-take-le i bytes (omega arith)) in
        omega (arith, writes_size p, writes_end p)

    pub hexes_on : (last : Page) → i < length bytes → Writes (hex (get_or bytes i 0)) after last → Writes (hexes (take (i + 1) bytes)) before last
    hexes_on last l q = rw (hexes_more bytes i l) (writes_then p q)

    pub hexes_done : length bytes ≤ i → WritesWithin (2 * length bytes) (hexes bytes) before after
    hexes_done l =
        let whole : Writes (hexes bytes) before after = rw take_all at p in
        record { whole = whole; within = omega (arith, writes_end whole, hexes_size bytes) }
