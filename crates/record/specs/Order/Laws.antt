-- What ahead, same and behind mean, of numbers that go round at 65536: ahead by 1 to 32767, equal, behind by 1 to 32768. Where a sender
-- numbers its frames on without end, they mean what its own numbers say.
-- Assumes nothing.
use Rattle.std.specs.Prelude.{◌≡◌, ℕ, ◌+◌, ◌-◌, ◌%◌, ◌<◌, ◌≤◌, ◌≢◌, ◌==◌, nat_lt, refl, if◌then◌else◌}
use Rattle.std.proofs.Common.{sym, ◌∙◌, arith}
use Rattle.std.proofs.Math.Decide.{ℕ_discrete, dec_lt}
use borrow.Author.Tests.{eq-eqb, ne_eqb, lt-ltb, le-ltb}
use Rattle.record.specs.Order.{lead, lag, compared}
use Rattle.record.specs.declared.order.Order.{Order}
use Rattle.record.specs.declared.order.Order.TheVariants.{Same, Ahead, Behind}

-- the cases, one for each way out of the code
module _ (new last d : ℕ) (e : d ≡ lead new last) where
  pub compared_same : d ≡ 0 → Same ≡ compared new last
  unfolding compared
  compared_same z = rw (eq-eqb (lead new last) 0 (sym e ∙ z))

  pub compared_ahead : d ≢ 0 → d < 32768 → Ahead ≡ compared new last
  unfolding compared
  compared_ahead n l = rw (ne_eqb (lead new last) 0 (λ z. n (e ∙ z)), lt-ltb (lead new last) 32768 (rw e at l))

  pub compared_behind : d ≢ 0 → 32768 ≤ d → Behind ≡ compared new last
  unfolding compared
  compared_behind n l = rw (ne_eqb (lead new last) 0 (λ z. n (e ∙ z)), le-ltb (lead new last) 32768 (rw e at l))

-- b follows a by 1 to `most` numbers, going round at 65536
pub record Follows (a b most : ℕ) : Type 0 where
  pub by : ℕ
  pub some : 1 ≤ by
  pub few : by ≤ most
  pub comes : b ≡ (a + by) % 65536

-- what each order says of the wrapped difference
abbrev pub Says : ℕ → Order → Type 0
Says d Same = d ≡ 0
Says d Ahead = (1 ≤ d) × (d ≤ 32767)
Says d Behind = 32768 ≤ d

pub says : (new last : ℕ) → Says (lead new last) (compared new last)
says new last = elim (ℕ_discrete (lead new last) 0) [
  | yes z ↦ rw (← compared_same new last (lead new last) refl z) z
  | no n ↦ elim (dec_lt (lead new last) 32768) [
    | yes l ↦ rw (← compared_ahead new last (lead new last) refl n l) (omega arith, omega arith)
    | no m ↦ rw (← compared_behind new last (lead new last) refl n (omega arith)) (omega arith)
  ]
]

module _ (new last : ℕ) (new_fits : new < 65536) (last_Fits : last < 65536) where
  pub ahead_means : compared new last ≡ Ahead → Follows last new 32767
  ahead_means e =
      let s : (1 ≤ lead new last) × (lead new last ≤ 32767) = rw e at (says new last) in
      record { by = lead new last; some = s.0; few = s.1; comes = omega arith }

  pub ahead_is : Follows last new 32767 → compared new last ≡ Ahead
  ahead_is f = sym (compared_ahead new last f.by (omega arith) (omega arith) (omega arith))

  pub same_means : compared new last ≡ Same → new ≡ last
  same_means e =
      let s : lead new last ≡ 0 = rw e at (says new last) in
      omega arith

  pub same_is : new ≡ last → compared new last ≡ Same
  same_is e = sym (compared_same new last 0 (omega arith) refl)

  pub behind_means : compared new last ≡ Behind → Follows new last 32768
  behind_means e =
      let s : 32768 ≤ lead new last = rw e at (says new last) in
      record { by = 65536 - lead new last; some = omega arith; few = omega arith; comes = omega arith }

  pub behind_is : Follows new last 32768 → compared new last ≡ Behind
  behind_is f = sym (compared_behind new last (65536 - f.by) (omega arith) (omega arith) (omega arith))

-- ---- frames whose sender numbers them on without end, and sends the number wrapped

-- how frame t stands to frame top
unfoldable pub true_order : ℕ → ℕ → Order
true_order t top = if t == top then Same else if nat_lt top t then Ahead else Behind

-- what holds in each of the three cases holds of the order
pub by_order : (P : Order → Type 0) (t top : ℕ) → (t ≡ top → P Same) → (top < t → P Ahead) → (t < top → P Behind) → P (true_order t top)
unfolding true_order
by_order P t top same ahead behind = elim (ℕ_discrete t top) [
  | yes e ↦ rw (eq-eqb t top e) (same e)
  | no n ↦ elim (dec_lt top t) [
    | yes l ↦ rw (ne_eqb t top n, lt-ltb top t l) (ahead l)
    | no m ↦ rw (ne_eqb t top n, le-ltb top t (omega arith)) (behind (omega arith))
  ]
]

-- a frame at most 32767 ahead of another, and at most 32768 behind it, stands to it as their own numbers say
pub compared_true : (t top : ℕ) → t ≤ top + 32767 → top ≤ t + 32768 → compared (t % 65536) (top % 65536) ≡ true_order t top
compared_true t top a b =
    by_order (λ o. compared (t % 65536) (top % 65536) ≡ o) t top
    (λ e. sym (compared_same (t % 65536) (top % 65536) 0 (omega arith) refl))
    (λ l. sym (compared_ahead (t % 65536) (top % 65536) (t - top) (omega arith) (omega arith) (omega arith)))
    (λ l. sym (compared_behind (t % 65536) (top % 65536) (65536 - (top - t)) (omega arith) (omega arith) (omega arith)))

-- one ahead of it leads, and one behind it lags, by as many numbers
pub lead_true : (t top : ℕ) → top < t → t ≤ top + 32767 → lead (t % 65536) (top % 65536) ≡ t - top
lead_true t top l a = omega arith

pub lag_true : (t top : ℕ) → t < top → top ≤ t + 32768 → lag (t % 65536) (top % 65536) ≡ top - t
lag_true t top l b = omega arith
