-- A frame's result, number by number, as the code puts it into its place.
-- Assumes nothing.
use Rattle.std.specs.Prelude.{◌≡◌, List, [], ◌∷◌, ◌++◌, ℕ, ◌+◌, ◌-◌, ◌*◌, ◌≤◌, ◌<◌, length, get_or, set, take, drop}
use Rattle.std.proofs.Math.Path.{refl, sym}
use Rattle.std.proofs.Common.{ap, ◌∙◌, append-nil, arith}
use Rattle.std.proofs.Math.Seq.{drop-length}
use Rattle.algebra.specs.Tests.{at}
use Rattle.algebra.specs.Lists.{tabulated, length_joined, joined_at, Filled, filled_none, filled_more, filled_all}
use Rattle.word.specs.Answers.{no_figures}
use Rattle.word.specs.declared.Figures.{Figures}
use Rattle.frame.specs.Frame.{ReceiveOutcome}
use Rattle.link.specs.Replay.{three_of, numbers_of, result_of}

-- ---- the figures

module _ (figures : List Figures) where
  abbrev found : ℕ → Figures
  found w = get_or figures w no_figures

  numbers_size : length (numbers_of figures) ≡ 48
  unfolding numbers_of
  numbers_size = length_joined 3 (λ w. three_of (found w)) 16 λ w l. refl

  number_at : (w j s : ℕ) → w < 16 → j < 3 → s ≡ w * 3 + j → at (three_of (found w)) j ≡ at (numbers_of figures) s
  unfolding numbers_of
  number_at w j s l m e = sym (ap (at (numbers_of figures)) e ∙ joined_at 3 (λ w. three_of (found w)) 16 (λ w l. refl) w j l m)

  -- the first numbers are put
  abbrev pub Put : ℕ → List ℕ → Type 0
  Put s place = Filled 48 (at (numbers_of figures)) s place

  one : (s after : ℕ) (place : List ℕ) (v : ℕ) → s < 48 → after ≡ s + 1 → v ≡ at (numbers_of figures) s → Put s place → Put after (set place s v)
  one s after place v l e own h = rw e (filled_more 48 _ s place v l own h)

  pub put_none : (place : List ℕ) → length place ≡ 48 → Put (3 * 0) place
  put_none place size = filled_none 48 _ place size

  -- those of one word more
  pub put_word : (w : ℕ) (place : List ℕ) → w < 16 → Put (3 * w) place → Put (3 * (w + 1)) (set (set (set place (3 * w) (found w).errors) (3 * w + 1) (found w).marked) (3 * w + 2) (found w).bits)
  put_word w place l h =
      one (3 * w + 2) _ _ _ (omega arith) (omega arith) (number_at w 2 (3 * w + 2) l (omega arith) (omega arith))
      (one (3 * w + 1) (3 * w + 2) _ _ (omega arith) (omega arith) (number_at w 1 (3 * w + 1) l (omega arith) (omega arith))
      (one (3 * w) (3 * w + 1) _ _ (omega arith) (omega arith) (number_at w 0 (3 * w) l (omega arith) (omega arith)) h))

  pub put_all : (s : ℕ) (place : List ℕ) → 48 ≤ s → Put s place → place ≡ numbers_of figures
  put_all s place l h = filled_all 48 (at (numbers_of figures)) s place l h ∙ sym (tabulated (numbers_of figures) 48 (at (numbers_of figures)) 0 numbers_size λ i u. refl)

-- ---- the whole

pub result_size : (o : ReceiveOutcome) → length (result_of o) ≡ 52
unfolding result_of
result_size o = omega (arith, numbers_size o.figures)

-- the four numbers before the figures, and the rest, which is lent as a part
pub put_whole : (o : ReceiveOutcome) (place rest : List ℕ) → length place ≡ 52 → (a b c d : ℕ) → a ≡ o.number → b ≡ o.word → c ≡ o.sequence → d ≡ o.back → rest ≡ numbers_of o.figures →
    let head = set (set (set (set place 0 a) 1 b) 2 c) 3 d in
    take 4 head ++ (rest ++ drop (52 - 4) (drop 4 head)) ≡ result_of o
unfolding result_of
put_whole o [] rest size a b c d p q r s e = absurd (omega (arith, size))
put_whole o (_ ∷ []) rest size a b c d p q r s e = absurd (omega (arith, size))
put_whole o (_ ∷ _ ∷ []) rest size a b c d p q r s e = absurd (omega (arith, size))
put_whole o (_ ∷ _ ∷ _ ∷ []) rest size a b c d p q r s e = absurd (omega (arith, size))
put_whole o (_ ∷ _ ∷ _ ∷ _ ∷ more) rest size a b c d p q r s e =
    let left : 48 ≡ length more = omega (arith, size) in
    let none : drop 48 more ≡ [] = ap (λ (n : ℕ). drop n more) left ∙ drop-length more in
    rw (none, append-nil, p, q, r, s, e)
