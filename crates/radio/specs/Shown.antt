-- What C is shown of an answer. Enums and references do not go across to C, so a call there shows the numbers of an answer that the call
-- below it promises.
-- Assumes nothing.
use Rattle.std.specs.Prelude.{◌≡◌}
use Rattle.std.proofs.Common.{sym, ap, ◌∙◌}

-- r is what is seen of an answer that meets the promise of the call below
pub record Shows {A B : Type 0} (seen : A → B) (Promised : A → Type 0) (r : B) : Type 0 where
  pub inner : A
  pub promised : Promised inner
  pub same : r ≡ seen inner

-- where the call below has no second answer, no second one is shown
pub shown_once : {A B : Type 0} {see look : A → B} {P Q : A → Type 0} {r q : B} (p : Shows see P r) (u : Shows look Q q) → see ≡ look → p.inner ≡ u.inner → r ≡ q
shown_once {see = see} p u s e = p.same ∙ ap see e ∙ ap (λ (f : _). f u.inner) s ∙ sym u.same
