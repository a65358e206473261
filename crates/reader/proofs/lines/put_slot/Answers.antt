-- `put_slot` meets its contract: each way is one law of what a slot adds, and a number below 10,000 has at most four digits.
use native.Mathlib.Omega.{arith}
use mathlib.Core.Path.{ap}
use Rattle.text.specs.Page.{writes_end, writes_size}
use Rattle.text.specs.declared.Page.{Page}
use Rattle.text.specs.Text.Decimal.{decimal_size}
use Rattle.reader.specs.Lines.Slots.{slot_same, slot_first, slot_later}
use Rattle.reader.proofs.lines.put_slot.Goals as goal
use Rattle.reader.proofs.lines.put_slot.Goals.{then-not-first, else-not-first}

pub returns-then-mark-eq0 : goal.returns-then-mark-eq0
returns-then-mark-eq0 c = record { whole = slot_same _ _ _ _ c.if-mark-eq0.true (omega arith); within = omega arith }

pub put_decimal-requires : goal.put_decimal-requires
put_decimal-requires c = elim c.if-not-first.branch [
  | then-not-first w ↦ rw w.page-is (omega (arith, decimal_size 3 c.args.slot c.requires.0, writes_end w.put_byte.ensures, writes_size w.put_byte.ensures))
  | else-not-first w ↦ rw w.page-is (omega (arith, decimal_size 3 c.args.slot c.requires.0))
]

pub returns : goal.returns
returns c = elim c.if-not-first.branch [
  | then-not-first w ↦ record {
    whole = slot_later _ _ _ c.if-mark-eq0.false c.put_decimal.ensures w.if-not-first.true w.put_byte.ensures w.page-is;
    within = omega (arith, decimal_size 3 c.args.slot c.requires.0, ap (λ (p : Page). p.end) w.page-is, writes_end w.put_byte.ensures, writes_end c.put_decimal.ensures);
  }
  | else-not-first w ↦ record {
    whole = slot_first _ _ _ c.if-mark-eq0.false c.put_decimal.ensures w.if-not-first.false w.page-is;
    within = omega (arith, decimal_size 3 c.args.slot c.requires.0, ap (λ (p : Page). p.end) w.page-is, writes_end c.put_decimal.ensures);
  }
]
