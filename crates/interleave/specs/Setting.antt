-- The limits of a delay line and the refusals of its calls (document 01, Delay line and Numbers a call can answer).
-- Assumes nothing.
use Rattle.std.specs.Prelude.{◌≡◌, refl, Bool, List, ℕ, ◌-◌, ◌*◌, ◌/◌, ◌%◌, ◌≤◌, ◌<◌, T, length}
use Rattle.std.proofs.Common.{sym, ◌∙◌, arith}
use Rattle.std.proofs.Math.Logic.Dec
use Rattle.std.proofs.Math.Decide.{ℕ_discrete, dec_le, dec_lt, map_dec}
use Rattle.algebra.specs.Tests.{below}
use Rattle.algebra.specs.Refusal.{need, need_yes, need_zero, need_either, first, first_none, first_zero, passes}
use Rattle.rings.specs.Rings.{order, tri_size}
use Rattle.rings.specs.Run.{RunFits, Ran, run, run_size, run_position}
use Rattle.interleave.specs.Numbers.{first_most}
use Rattle.interleave.specs.Line.{period, period_round}
use Rattle.interleave.specs.declared.line.Line.{Line}

-- I branches, unit M and n: each in its limits, I divides n, and M * I is at least n
pub record Setting (I M n : ℕ) : Type 0 where
  pub branches : (2 ≤ I) × (I ≤ 16)
  pub unit : (1 ≤ M) × (M ≤ 128)
  pub size : (3 ≤ n) × (n ≤ 255)
  pub whole : n % I ≡ 0
  pub room : n ≤ M * I

setting? : (I M n : ℕ) → Dec (Setting I M n)
setting? I M n =
    map_dec (λ p. record { branches = p.0; unit = p.1.0; size = p.1.1.0; whole = p.1.1.1.0; room = p.1.1.1.1 }) (λ s. (s.branches, (s.unit, (s.size, (s.whole, s.room)))))
    (Dec.and (Dec.and (dec_le 2 I) (dec_le I 16))
    (Dec.and (Dec.and (dec_le 1 M) (dec_le M 128)) (Dec.and (Dec.and (dec_le 3 n) (dec_le n 255)) (Dec.and (ℕ_discrete (n % I) 0) (dec_le n (M * I))))))

-- the bytes of a line's memory
abbrev pub memory_size : ℕ → ℕ → ℕ
memory_size I M = M * I * (I - 1) / 2

-- the setting is in its limits, and the position is one that some number of steps from a fresh line reaches
pub record Allowed (l : Line) : Type 0 where
  pub setting : Setting l.branches l.unit l.n
  pub position : l.position < period l.branches l.unit

pub allowed? : (l : Line) → Dec (Allowed l)
allowed? l =
    map_dec (λ p. record { setting = p.0; position = p.1 }) (λ a. (a.setting, a.position))
    (Dec.and (setting? l.branches l.unit l.n) (dec_lt l.position (period l.branches l.unit)))

-- a line of this setting at a position, and a line moved to another
abbrev pub line_at : ℕ → ℕ → ℕ → ℕ → Line
line_at I M n p = record { branches = I; unit = M; n = n; position = p }

abbrev pub moved : Line → ℕ → Line
moved l p = line_at l.branches l.unit l.n p

-- a run of the line's rings over some bytes: of the sender, or back of the receiver
abbrev pub line_run : Bool → Line → List ℕ → List ℕ → Ran
line_run back l m bs = run (order back l.branches) l.branches l.unit (period l.branches l.unit) l.position m bs

-- the number answered for a line with a memory of so many bytes; of a receiver, whose marks have a memory of their own; ..
unfoldable pub line_refusal : Line → ℕ → ℕ
line_refusal l size = need (allowed? l) 1 (need (ℕ_discrete size (memory_size l.branches l.unit)) 2 0)

unfoldable pub receiver_refusal : Line → ℕ → ℕ → ℕ
receiver_refusal l size marks = first (line_refusal l size) (need (ℕ_discrete marks size) 2 0)

-- .. and of its run over so many bytes with marks
unfoldable pub receive_refusal : Line → ℕ → List ℕ → ℕ → List ℕ → ℕ
receive_refusal l size held many marks =
    first (receiver_refusal l size (length held)) (need (ℕ_discrete (length marks) many) 2 (need (passes (below 2 held)) 3 (need (passes (below 2 marks)) 3 0)))

-- ---- laws: what is known of a call that is not refused, and which calls are not

pub record Fine (l : Line) (size : ℕ) : Type 0 where
  pub allowed : Allowed l
  pub exact : size ≡ memory_size l.branches l.unit

pub line_fine : (l : Line) (size : ℕ) → line_refusal l size ≡ 0 → Fine l size
unfolding line_refusal
line_fine l size e =
    let (a, e₁) = need_zero (allowed? l) 1 _ (omega arith) e in
    let (s, _) = need_zero (ℕ_discrete size (memory_size l.branches l.unit)) 2 _ (omega arith) e₁ in
    record { allowed = a; exact = s }

pub line_done : (l : Line) (size : ℕ) → Fine l size → line_refusal l size ≡ 0
unfolding line_refusal
line_done l size f = sym (need_yes _ _ _ 0 f.allowed (need_yes _ _ _ 0 f.exact refl))

-- a line stays fine from run to run
pub run_fine : (back : Bool) (l : Line) (m bs : List ℕ) → Fine l (length m) → let z = line_run back l m bs in Fine (moved l z.position) (length z.memory)
run_fine back l m bs f = record {
  allowed = record { setting = f.allowed.setting; position = run_position _ _ _ _ l.position m bs f.allowed.position };
  exact = run_size _ _ _ _ l.position m bs ∙ f.exact;
}

pub receiver_fine : (l : Line) (size marks : ℕ) → receiver_refusal l size marks ≡ 0 → Fine l size × (marks ≡ size)
unfolding receiver_refusal
receiver_fine l size marks e =
    let (a, e₁) = first_zero (line_refusal l size) _ e in
    let (s, _) = need_zero (ℕ_discrete marks size) 2 _ (omega arith) e₁ in
    (line_fine l size a, s)

pub receiver_done : (l : Line) (size marks : ℕ) → Fine l size → marks ≡ size → receiver_refusal l size marks ≡ 0
unfolding receiver_refusal
receiver_done l size marks f e = sym (first_none _ _ 0 (line_done l size f) (need_yes _ _ _ 0 e refl))

-- a receiver, its memories equally long and all its marks 0 or 1
pub record ReceiverFine (l : Line) (size : ℕ) (held : List ℕ) : Type 0 where
  pub line : Fine l size
  pub exact : length held ≡ size
  pub fit : T (below 2 held)

-- and its run
pub record RunFine (l : Line) (size : ℕ) (held : List ℕ) (many : ℕ) (marks : List ℕ) : Type 0 where
  pub receiver : ReceiverFine l size held
  pub each : length marks ≡ many
  pub small : T (below 2 marks)

pub receive_fine : (l : Line) (size : ℕ) (held : List ℕ) (many : ℕ) (marks : List ℕ) → receive_refusal l size held many marks ≡ 0 → RunFine l size held many marks
unfolding receive_refusal
receive_fine l size held many marks e =
    let (a, e₁) = first_zero (receiver_refusal l size (length held)) _ e in
    let (n, e₂) = need_zero (ℕ_discrete (length marks) many) 2 _ (omega arith) e₁ in
    let (m, e₃) = need_zero (passes (below 2 held)) 3 _ (omega arith) e₂ in
    let (k, _) = need_zero (passes (below 2 marks)) 3 _ (omega arith) e₃ in
    let (f, s) = receiver_fine l size (length held) a in
    record { receiver = record { line = f; exact = s; fit = m }; each = n; small = k }

pub receive_done : (l : Line) (size : ℕ) (held : List ℕ) (many : ℕ) (marks : List ℕ) → RunFine l size held many marks → receive_refusal l size held many marks ≡ 0
unfolding receive_refusal
receive_done l size held many marks r =
    let f = r.receiver in
    sym (first_none _ _ 0 (receiver_done l size (length held) f.line f.exact) (need_yes _ _ _ 0 r.each (need_yes _ _ _ 0 f.fit (need_yes _ _ _ 0 r.small refl))))

-- which numbers there are
line_most : (l : Line) (size : ℕ) → line_refusal l size ≤ 2
unfolding line_refusal
line_most l size = need_either _ 1 _ (λ z. z ≤ 2) (omega arith) (need_either _ 2 0 (λ z. z ≤ 2) (omega arith) (omega arith))

pub line_numbers : (l : Line) (size : ℕ) → line_refusal l size ≤ 3
line_numbers l size = omega (arith, line_most l size)

pub receiver_numbers : (l : Line) (size marks : ℕ) → receiver_refusal l size marks ≤ 3
unfolding receiver_refusal
receiver_numbers l size marks = first_most _ _ 3 (line_numbers l size) (need_either _ 2 0 (λ z. z ≤ 3) (omega arith) (omega arith))

pub receive_numbers : (l : Line) (size : ℕ) (held : List ℕ) (many : ℕ) (marks : List ℕ) → receive_refusal l size held many marks ≤ 3
unfolding receive_refusal
receive_numbers l size held many marks =
    first_most _ _ 3 (receiver_numbers l size (length held))
    (need_either _ 2 _ (λ z. z ≤ 3) (omega arith) (need_either _ 3 _ (λ z. z ≤ 3) (omega arith) (need_either _ 3 0 (λ z. z ≤ 3) (omega arith) (omega arith))))

-- a fine line may run
pub run_fits : (l : Line) (size : ℕ) → Fine l size → RunFits l.branches l.unit (period l.branches l.unit) l.position size
run_fits l size f =
    let s = f.allowed.setting in
    record {
      branches = (omega (arith, s.branches.0), omega (arith, s.branches.1));
      unit = s.unit;
      place = f.allowed.position;
      exact = f.exact ∙ tri_size l.branches l.unit;
      round = period_round l.branches l.unit s.branches.1;
    }
