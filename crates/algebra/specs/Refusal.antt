-- How a call comes to the number it answers (document 01, Numbers a call can answer): one need after the other, in the paper's order.
-- Assumes nothing.
use Rattle.std.specs.Prelude.{◌≡◌, refl, Bool, true, false, not, ◌≢◌, ℕ, zero, suc, ◌<◌, T}
use Rattle.std.proofs.Common.{sym, ◌∙◌, arith}
use Rattle.algebra.specs.Sets.{put, put_elim, put_yes, put_no}

-- what the test decides must hold, or the call is refused with this number
unfoldable pub need : {P : Type 0} → Dec P → ℕ → ℕ → ℕ
need test number rest = put test rest number

-- the first refusal, and where there is none the second
abbrev pub first : ℕ → ℕ → ℕ
first zero b = b
first (suc a) b = suc a

-- a where the number is 0, else b: the new content under answer 0, the old under a refusal
abbrev pub if_zero : {A : Type 0} → ℕ → A → A → A
if_zero zero a b = a
if_zero (suc k) a b = b

-- a test of the specification, decided
abbrev pub passes : (b : Bool) → Dec (T b)
passes true = yes tt
passes false = no λ t. t

-- ---- laws

pub need_yes : {P : Type 0} (w : Dec P) (a b x : ℕ) → P → x ≡ b → x ≡ need w a b
unfolding need
need_yes w a b x p e = e ∙ sym (put_yes w b a p)

pub need_no : {P : Type 0} (w : Dec P) (a b : ℕ) → ¬ P → a ≡ need w a b
unfolding need
need_no w a b p = sym (put_no w b a p)

pub need_zero : {P : Type 0} (w : Dec P) (a b : ℕ) → 0 < a → need w a b ≡ 0 → P × (b ≡ 0)
unfolding need
need_zero (yes p) a b h e = (p, sym (put_yes (yes p) b a p) ∙ e)
need_zero (no p) a b h e = absurd (omega (arith, put_no (no p) b a p))

-- what holds of a need's number and of what comes after it holds either way
pub need_either : {P : Type 0} (w : Dec P) (a b : ℕ) (B : ℕ → Type 0) → B a → B b → B (need w a b)
unfolding need
need_either w a b B h k = put_elim w b a B (λ p. k) (λ p. h)

pub first_none : (a b x : ℕ) → a ≡ 0 → x ≡ b → x ≡ first a b
first_none a b x e g = rw e g

pub first_some : (a b r : ℕ) → r ≡ a → r ≢ 0 → r ≡ first a b
first_some zero b r e h = absurd (h e)
first_some (suc a) b r e h = e

pub first_zero : (a b : ℕ) → first a b ≡ 0 → (a ≡ 0) × (b ≡ 0)
first_zero zero b e = (refl, e)
first_zero (suc a) b e = absurd (omega arith)

pub new : {A : Type 0} (r : ℕ) (a b : A) → r ≡ 0 → a ≡ if_zero r a b
new r a b e = rw e refl

pub kept : {A : Type 0} (r : ℕ) (a b : A) → r ≢ 0 → b ≡ if_zero r a b
kept zero a b h = absurd (h refl)
kept (suc r) a b h = refl

-- what the code's own test says of that of the specification
pub test_yes : (r b : Bool) → r ≡ b → not r ≡ false → T b
test_yes true b e h = rw (← e) tt
test_yes false b e h = let z : ◌≡◌ {A = ℕ} 0 1 = cc in absurd (omega arith)

pub test_no : (r b : Bool) → r ≡ b → not r ≡ true → ¬ T b
test_no true b e h = let z : ◌≡◌ {A = ℕ} 0 1 = cc in absurd (omega arith)
test_no false b e h = λ t. rw (← e) at t
