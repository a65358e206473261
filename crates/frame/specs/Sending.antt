-- The loop that fills a frame's slots, and the answers of sending one by one.
-- Assumes nothing.
use Rattle.std.specs.Prelude.{◌≡◌, Ok, Err, List, ℕ, ◌+◌, ◌*◌, ◌≤◌, ◌<◌, length}
use Rattle.std.proofs.Common.{sym, ◌∙◌, arith}
use Rattle.std.proofs.Math.Path.{ap}
use Rattle.algebra.specs.Lists.{tabulate, length_tabulate, Copied, part, within, part_entries}
use Rattle.word.specs.Setting.{message_size, allowed_yes}
use Rattle.word.specs.Code.{encoded}
use Rattle.word.specs.Refusals.{MessageChecked}
use Rattle.algebra.specs.Refusal.{new, kept}
use Rattle.interleave.specs.Slots.{PutsWord, Putting, putting_more, putting_all}
use Rattle.frame.specs.Frame.{word_setting, area_size, area_byte, area_sent, word_sent, slots_sent, sent_number, send_refusal, sending}
use Rattle.frame.specs.Frame.Limits.{FrameAllowed}
use Rattle.frame.specs.Frame.Trailer.{length_sent}
use Rattle.frame.specs.Promises.{Sends}
use Rattle.frame.specs.Checks.{SendChecked, send_passes}
use Rattle.frame.specs.declared.setting.Framing.{Framing}
use Rattle.frame.specs.declared.setting.SendError.{SendError}
use Rattle.frame.specs.declared.setting.SendError.TheVariants.{BadSetting, BadLength, LongPayload}

-- ---- the loop

-- the checks are passed, and there is work space for a message and for its word
pub record SendGiven (f : Framing) (payload message word slots : List ℕ) : Type 0 where
  pub checked : SendChecked f payload slots
  pub message_size_lem : length message ≡ message_size (word_setting f)
  pub word_size : length word ≡ f.n

-- w words are in their slots
pub record WordsSent (f : Framing) (payload : List ℕ) (sequence w : ℕ) (message word slots : List ℕ) : Type 0 where
  pub turn : w ≤ f.depth
  pub message_size_lem : length message ≡ message_size (word_setting f)
  pub word_size : length word ≡ f.n
  pub put : Putting f.depth f.n (word_sent f payload sequence) w slots

module _ (f : Framing) (payload : List ℕ) (sequence : ℕ) where
  module _ (w : ℕ) where
    abbrev k : ℕ
    k = message_size (word_setting f)

    abbrev area : List ℕ
    area = area_sent (area_size f) payload sequence

    -- a filled message is the area's part
    own_part : length payload + 4 ≤ area_size f → w < f.depth → (size : ℕ) → size ≡ k → (filled : List ℕ) → Copied size (area_byte area (w * k)) filled
        → (filled ≡ part k w area) × (length filled ≡ k)
    own_part fits l size e filled c =
        let whole : length area ≡ area_size f = length_sent (area_size f) payload sequence fits in
        let entries : filled ≡ tabulate k (area_byte area (w * k)) = c.entries ∙ ap (λ (z : ℕ). tabulate z (area_byte area (w * k))) e in
        (entries ∙ part_entries k w area (omega (arith, within w f.depth k l)), ap length entries ∙ length_tabulate _ _)

    -- the filled message is one that the word's encoder takes
    pub sent_checked : FrameAllowed f → length payload + 4 ≤ area_size f → w < f.depth → (message word slots : List ℕ) → WordsSent f payload sequence w message word slots
        → (filled : List ℕ) → Copied (length message) (area_byte area (w * k)) filled → MessageChecked (word_setting f) filled word
    sent_checked a fits l message word slots s filled c =
        record { setting = rw (← allowed_yes (word_setting f) a.words) tt; size = (own_part fits l (length message) s.message_size_lem filled c).1; word_size = s.word_size; small = c.small }

    pub sent_more : FrameAllowed f → length payload + 4 ≤ area_size f → w < f.depth → (message word slots : List ℕ) → WordsSent f payload sequence w message word slots
        → (filled : List ℕ) → Copied (length message) (area_byte area (w * k)) filled
        → (made : List ℕ) → length made ≡ f.n → made ≡ encoded (word_setting f) filled
        → (left : List ℕ) → PutsWord f.depth w made slots left → WordsSent f payload sequence (w + 1) filled made left
    unfolding word_sent
    sent_more a fits l message word slots s filled c made n is left p =
        let (own, full) = own_part fits l (length message) s.message_size_lem filled c in
        record {
          turn = omega arith;
          message_size_lem = full;
          word_size = n;
          put = putting_more f.depth f.n (word_sent f payload sequence) w made slots left l (is ∙ ap (encoded (word_setting f)) own) n s.put p;
        }

    pub sent_all : FrameAllowed f → f.depth ≤ w → (message word slots : List ℕ) → WordsSent f payload sequence w message word slots → slots ≡ slots_sent f payload sequence
    unfolding slots_sent
    sent_all a h message word slots s = putting_all f.depth f.n (word_sent f payload sequence) w slots h a.some s.put

-- ---- the answers

-- a refusal's number is not 0
refusal_some : (e : SendError) → 0 < sent_number (Err e)
refusal_some BadSetting = omega arith
refusal_some BadLength = omega arith
refusal_some LongPayload = omega arith

module _ (f : Framing) (payload : List ℕ) (sequence : ℕ) (slots : List ℕ) where
  pub send_refused : (e : SendError) → sent_number (Err e) ≡ send_refusal f payload slots → Sends f payload sequence slots (Err e) slots
  unfolding sending
  send_refused e h = record { outcome = rw h (kept (send_refusal f payload slots) _ _ (omega (arith, refusal_some e))) }

  pub send_done : SendChecked f payload slots → (left : List ℕ) → left ≡ slots_sent f payload sequence → Sends f payload sequence slots (Ok tt) left
  unfolding sending
  send_done c left e = record { outcome = rw e (new _ _ _ (sym (send_passes f payload slots c))) }
