-- What the bench reader's calls promise (document 01, Worked table), and that no second answer meets it. `framing` and `wanted` promise an
-- equation.
-- Assumes nothing.
use Rattle.std.specs.Prelude.{◌≡◌, List, ◌++◌, ℕ, ◌+◌, ◌≤◌, length, drop}
use Rattle.std.proofs.Common.{sym, ap, ◌∙◌, arith, length-append}
use Rattle.frame.specs.declared.setting.Framing.{Framing}
use Rattle.text.specs.Put.{Put}
use Rattle.reader.specs.Head.{framing_of, wanted_of}
use Rattle.reader.specs.Spoken.{spoken}

-- how long the text is, and the lent text afterwards
pub record ReportOutcome : Type 0 where
  pub count : ℕ
  pub text : List ℕ

abbrev pub report_outcome : ℕ → List ℕ → ReportOutcome
report_outcome count text = record { count = count; text = text }

-- the text stands at the start, and what stood behind it stays
unfoldable pub reporting : List ℕ → List ℕ → ReportOutcome
reporting input text = report_outcome (length (spoken input)) (spoken input ++ drop (length (spoken input)) text)

-- `report`
pub record Reports (input text : List ℕ) (count : ℕ) (left : List ℕ) : Type 0 where
  pub outcome : report_outcome count left ≡ reporting input text

-- text written from the front
pub put_reports : {input text : List ℕ} {count : ℕ} {left : List ℕ} → Put (spoken input) text 0 count left → Reports input text count left
unfolding reporting
put_reports {input} p =
    let e : 0 + length (spoken input) ≡ length (spoken input) = omega arith in
    record { outcome = rw (p.next ∙ e, p.written, e) }

-- the text lies within what is left
pub reports_within : {input text : List ℕ} {count : ℕ} {left : List ℕ} → Reports input text count left → count ≤ length left
unfolding reporting
reports_within p =
    rw (ap (λ (o : ReportOutcome). o.count) p.outcome, ap (λ (o : ReportOutcome). o.text) p.outcome, length-append) (omega arith)

-- ---- no second answer

pub reports_once : {input text : List ℕ} {r q : ℕ} {x y : List ℕ} → Reports input text r x → Reports input text q y → (r ≡ q) × (x ≡ y)
reports_once p u =
    let same = p.outcome ∙ sym u.outcome in
    (ap (λ (o : ReportOutcome). o.count) same, ap (λ (o : ReportOutcome). o.text) same)

pub wanted_once : (head : List ℕ) (r q : ℕ) → r ≡ wanted_of head → q ≡ wanted_of head → r ≡ q
wanted_once head r q p u = cc

pub framing_once : (input : List ℕ) (f g : Framing) → f ≡ framing_of input → g ≡ framing_of input → f ≡ g
framing_once input f g p u = cc
