-- What a call that writes a piece on a page promises: the piece stands where the page was written to, and the page goes on behind it.
-- Assumes nothing.
use Rattle.std.specs.Prelude.{◌≡◌, refl, List, [], ◌++◌, ℕ, ◌+◌, ◌≤◌, length}
use Rattle.std.proofs.Common.{◌∙◌}
use Rattle.text.specs.Put.{Put, put_none, put_then, put_size}
use Rattle.text.specs.declared.Page.{Page}

-- the page stays the same lent text
pub record Writes (piece : List ℕ) (before after : Page) : Type 0 where
  pub same : after.text.ghost_name ≡ before.text.ghost_name
  pub written : Put piece before.text.now before.end after.end after.text.now

-- the piece is also known to have at most so many bytes
pub record WritesWithin (most : ℕ) (piece : List ℕ) (before after : Page) : Type 0 where
  pub whole : Writes piece before after
  pub within : after.end ≤ before.end + most

-- ---- laws

pub writes_none : (page : Page) → page.end ≤ length page.text.now → Writes [] page page
writes_none page l = record { same = refl; written = put_none page.text.now page.end l }

-- one piece after the other
pub writes_then : {piece more : List ℕ} {before between after : Page} → Writes piece before between → Writes more between after → Writes (piece ++ more) before after
writes_then p q = record { same = q.same ∙ p.same; written = put_then p.written q.written }

-- how far the page is written, and that the lent text keeps its length
pub writes_end : {piece : List ℕ} {before after : Page} → Writes piece before after → after.end ≡ before.end + length piece
writes_end p = p.written.next

pub writes_size : {piece : List ℕ} {before after : Page} → Writes piece before after → length after.text.now ≡ length before.text.now
writes_size p = put_size p.written
