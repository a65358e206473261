-- The first look at a received word: its marks counted, and what it leaves of its message's check symbols. And the tables by which many words
-- are looked at.
-- Assumes nothing.
use Rattle.std.specs.Prelude.{◌≡◌, refl, Bool, true, false, List, ℕ, ◌+◌, ◌*◌, ◌^◌, ◌≤◌, ◌<◌, T, length, take, drop}
use Rattle.std.proofs.Math.Path.{sym, ap}
use Rattle.std.proofs.Common.{◌∙◌, subst, arith, length-drop, take-append-drop, ext_get_or, length-take-le, get_or-take}
use Rattle.std.proofs.Math.Option.{some, none}
use Rattle.algebra.specs.Tests.{at, total, below, below_at, below_split, passed}
use Rattle.algebra.specs.Lists.{tabulate, tabulated}
use Rattle.checks.specs.Prepared.{Prepared}
use Rattle.checks.specs.Left.{LeftOver, left_none}
use Rattle.checks.specs.Checks.{Checks}
use Rattle.checks.specs.Spaced.{spaced, spaced_rule, length_spaced, behind_at, Agree, spaced_front, spaced_rest}
use Rattle.word.specs.Setting.{allowed, limits, message_size}
use Rattle.word.specs.Word.{marked}
use Rattle.word.specs.Codeword.{is_codeword, Codeword, codeword, is_codeword_lem, in_reach, is_in_reach}
use Rattle.word.specs.Distance.{errors_self, bits_self}
use Rattle.word.specs.Code.{corrected}
use Rattle.word.specs.Code.Laws.{corrected_only, corrected_none}
use Rattle.word.specs.Answers.{figures}
use Rattle.word.specs.Refusals.{Checked, WordChecked}
use Rattle.word.specs.Completion.{codeword_from}
use Rattle.word.specs.Encoding.{clean_is_codeword, codeword_is_clean}
use Rattle.checks.specs.declared.register.Tables.{Tables}
use Rattle.word.specs.declared.Setting.{Setting}
use Rattle.word.specs.declared.Figures.{Figures}
use Rattle.word.specs.declared.look.Look.{Look}
use Rattle.word.specs.declared.look.Look.TheVariants.{Lost, Clean, Damaged}

-- the tables are those of the setting's code
abbrev pub Tabled : Setting → Tables → Type 0
Tabled s tables = Prepared s.m s.b s.r tables.low tables.high

-- a word whose symbols stand `step` apart in the slots, from the one at `first` on
abbrev pub standing : Setting → (step first : ℕ) → List ℕ → List ℕ
standing s step first slots = spaced step first s.n slots

pub standing_rule : (s : Setting) (step first : ℕ) (slots : List ℕ) → standing s step first slots ≡ tabulate s.n λ i. at slots (i * step + first)
standing_rule s step first slots = spaced_rule step first s.n slots

-- it may be asked about: its setting is allowed, it stands within the slots, and its symbols are those of the field
pub record Stands (s : Setting) (step first : ℕ) (slots : List ℕ) : Type 0 where
  pub setting : T (allowed s)
  pub within : (i : ℕ) → i < s.n → i * step + first < length slots
  pub small : T (below (2 ^ s.m) (standing s step first slots))

-- a word that has passed the checks stands by itself
module _ (s : Setting) (word : List ℕ) (c : WordChecked s word) where
  alone : standing s 1 0 word ≡ word
  alone = standing_rule s 1 0 word ∙ sym (tabulated word s.n (λ i. at word (i * 1 + 0)) 0 c.size λ i l. ap (at word) (let k : i ≡ i * 1 + 0 = omega arith in k))

  pub stands_alone : Stands s 1 0 word
  stands_alone = record { setting = c.setting; within = λ i l. omega (arith, c.size); small = rw alone c.small }

  pub told_alone : (t : Bool) → t ≡ is_codeword s (standing s 1 0 word) → t ≡ is_codeword s word
  told_alone t e = e ∙ ap (is_codeword s) alone

-- and is a codeword exactly where its message's check symbols are those that stand behind it
module _ (s : Setting) (step first : ℕ) (slots : List ℕ) (g : Stands s step first slots) (checks : List ℕ) (room : length checks ≡ 16)
    (c : Checks s.m s.b s.r (spaced step first (message_size s) slots) checks) where
  abbrev w : List ℕ
  w = standing s step first slots

  abbrev size : length w ≡ s.n
  size = length_spaced step first s.n slots

  own : Checks s.m s.b s.r (take (message_size s) w) checks
  own = subst (λ (v : List ℕ). Checks s.m s.b s.r v checks) (sym (spaced_front step first s.n slots (message_size s) (omega arith))) c

  tail : (j : ℕ) → j < s.r → at (drop (message_size s) w) j ≡ behind_at slots step first (message_size s) j
  tail j l = spaced_rest step first s.n slots (message_size s) (omega arith) j (omega (arith, (limits s g.setting).room))

  all_same : ((j : ℕ) → j < s.r → at checks j ≡ behind_at slots step first (message_size s) j) → take s.r checks ≡ drop (message_size s) w
  all_same h =
      let few : length (take s.r checks) ≡ s.r = length-take-le s.r checks (omega (arith, (limits s g.setting).high)) in
      ext_get_or 0 (take s.r checks) (drop (message_size s) w) (few ∙ sym (length-drop (message_size s) w ∙ omega (arith, size, (limits s g.setting).room))) λ j l.
      let k : j < s.r = omega arith in
      get_or-take s.r checks j 0 k ∙ h j k ∙ sym (tail j k)

  pub agreed : (t : Bool) → Agree checks s.r slots step first (message_size s) t → t ≡ is_codeword s w
  agreed true a = sym (passed (is_codeword s w) (is_codeword_lem s w (clean_is_codeword s g.setting w checks size g.small room own (all_same (a.same refl)))))
  agreed false a = no (is_codeword s w) refl
    where
      no : (b : Bool) → is_codeword s w ≡ b → false ≡ b
      no true e =
          let (j, l, ne) = a.other refl in
          absurd (ne (sym (get_or-take s.r checks j 0 l) ∙ ap (λ (v : List ℕ). at v j) (codeword_is_clean s g.setting w checks size g.small room own (codeword s w (rw e tt))) ∙ tail j l))
      no false e = refl

-- what is known of a received word once its marks are counted, and it is known what it leaves of its message's check symbols
pub record Measured (s : Setting) (marks received : List ℕ) (f : ℕ) (rest : List ℕ) : Type 0 where
  pub checked : Checked s marks received
  pub counted : f ≡ marked marks received
  pub few : f ≤ s.r
  pub left : LeftOver s.m s.b s.r received (take s.r rest)

-- what a look at a word tells: no codeword qualifies; or the word is one, with these figures; or it is damaged, and measured
abbrev pub Told : Setting → (marks received : List ℕ) → Look → Type 0
Told s marks received Lost = corrected s marks received ≡ none
Told s marks received (Clean f) = (corrected s marks received ≡ some received) × (f ≡ figures marks received received)
Told s marks received (Damaged f rest) = Measured s marks received f rest

pub record Looked (s : Setting) (marks received : List ℕ) (r : Look) : Type 0 where
  pub fine : Checked s marks received
  pub told : Told s marks received r

-- the test of what is left over, and of all that stands behind it
nothing_left : (r : ℕ) (rest : List ℕ) → true ≡ below 1 rest → T (below 1 (take r rest))
nothing_left r rest e = (below_split 1 (take r rest) (drop r rest) (rw (take-append-drop r rest, ← e) tt)).0

module _ (s : Setting) (marks received : List ℕ) (ch : Checked s marks received) where
  -- the marks that were counted
  pub marks_counted : (f : ℕ) → f ≡ total (length marks) (at marks) → f ≡ marked marks received
  unfolding marked
  marks_counted f e = e ∙ ap (λ (k : ℕ). total k (at marks)) (ch.marks_size ∙ sym ch.size)

  -- more marks than check symbols
  pub overmarked : (f : ℕ) → f ≡ marked marks received → s.r < f → corrected s marks received ≡ none
  overmarked f e l = corrected_none s marks received λ c q. omega (arith, (in_reach s marks received c q).bound)

-- where nothing is left over, the received word is the one that qualifies
module _ (s : Setting) (marks received rest : List ℕ) (f : ℕ) (h : Measured s marks received f rest) (none_left : T (below 1 (take s.r rest))) where
  abbrev k : Checked s marks received
  k = h.checked

  is_clean : Codeword s received
  is_clean = codeword_from s (limits s k.setting) received k.size k.small
      (left_none s.m s.b s.r received (take s.r rest) h.left λ i. omega (arith, below_at 1 (take s.r rest) none_left i (omega arith)))

  pub clean_corrected : corrected s marks received ≡ some received
  clean_corrected = corrected_only s k.setting marks received k.size received
      (is_in_reach s marks received received (record { code = is_clean; bound = omega (arith, errors_self marks received, h.few, h.counted) }))

-- ---- the three ways out of a look

module _ (s : Setting) (marks received : List ℕ) (ch : Checked s marks received) (f : ℕ) (ef : f ≡ total (length marks) (at marks)) where
  counted : f ≡ marked marks received
  counted = marks_counted s marks received ch f ef

  pub looked_lost : s.r < f → Looked s marks received Lost
  looked_lost l = record { fine = ch; told = overmarked s marks received ch f counted l }

  module _ (few : f ≤ s.r) (rest : List ℕ) (left : LeftOver s.m s.b s.r received (take s.r rest)) where
    seen : Measured s marks received f rest
    seen = record { checked = ch; counted = counted; few = few; left = left }

    pub looked_clean : true ≡ below 1 rest → (g : Figures) → g ≡ record { errors = 0; marked = f; bits = 0 } → Looked s marks received (Clean g)
    looked_clean t g e = record {
      fine = ch;
      told = (clean_corrected s marks received rest f seen (nothing_left s.r rest t), e ∙ rw (errors_self marks received, bits_self received, ← counted));
    }

    pub looked_damaged : Looked s marks received (Damaged f rest)
    looked_damaged = record { fine = ch; told = seen }
