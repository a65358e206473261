-- A record that has accepted a frame judges the next by the two numbers alone, where their order says all.
-- Assumes nothing.
use Rattle.std.specs.Prelude.{◌≡◌, refl, ℕ}
use Rattle.std.proofs.Common.{sym, ap, ◌∙◌}
use Rattle.record.specs.Order.{lag, compared}
use Rattle.record.specs.Record.{kind_of, standing, counted_as}
use Rattle.record.specs.Record.Laws.{standing_again, noted_accepted}
use Rattle.record.specs.declared.Kind.{Kind}
use Rattle.worked.specs.Gives.{Judges}

pub judges : (last new : ℕ) (k : Kind) → ((memory : ℕ) → kind_of memory (lag new last) (compared new last) ≡ k) → Judges last new k
judges last new k e h a l = (λ x p. p ∙ stands, λ after p. p.outcome ∙ sym (noted_accepted h 0 new refl) ∙ ap (counted_as h new) stands)
  where
    stands : standing h new ≡ k
    stands = sym (standing_again h new a) ∙ ap (λ (x : ℕ). kind_of h.seen (lag new x) (compared new x)) l ∙ e h.seen
