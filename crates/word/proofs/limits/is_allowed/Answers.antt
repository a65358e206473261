-- `limits::is_allowed` meets its contract: each test of the chain is one of the specification's.
use mathlib.Core.Path.{◌≡◌, sym, ◌∙◌}
use mathlib.Core.Bool.{true}
use lib.Dec.{ltb}
use Rattle.std.proofs.Common.{le-leb, lt-ltb}
use Rattle.word.specs.Setting.{allowed_by, allowed_no, named}
use Rattle.word.proofs.limits.is_allowed.Goals as goal
use Rattle.word.proofs.limits.is_allowed.Goals.{then-is_field, else-is_field, then-s-ge2, else-s-ge2, then-s-le16, else-s-le16, then-s, else-s}

pub returns-then-s-symbols_of : goal.returns-then-s-symbols_of
returns-then-s-symbols_of c =
    elim c.if-s.branch [
      | then-s w ↦
          let (f, low, high, room) = w.if-s.true in
          rw (allowed_by c.args.s w.symbols_of.result w.symbols_of.ensures, sym c.is_field.ensures ∙ f, le-leb _ _ low, le-leb _ _ high, lt-ltb _ _ room, sym w.value-is ∙ c.if-s-symbols_of.true)
      | else-s w ↦ absurd (cc)
    ]

pub returns-else-s-symbols_of : goal.returns-else-s-symbols_of
returns-else-s-symbols_of c = c.if-s-symbols_of.false ∙ allowed_no c.args.s λ a.
    elim c.if-s.branch [
      | then-s w ↦ let z : ltb c.args.s.n w.symbols_of.result ≡ true = lt-ltb _ _ (rw (w.symbols_of.ensures, named _ a.field) a.short) in cc
      | else-s w ↦ elim c.if-s-le16.branch [
        | then-s-le16 v ↦ let z = lt-ltb _ _ a.room in cc
        | else-s-le16 v ↦ elim c.if-s-ge2.branch [
          | then-s-ge2 u ↦ let z = le-leb _ _ a.high in cc
          | else-s-ge2 u ↦ elim c.if-is_field.branch [
            | then-is_field x ↦ let z = le-leb _ _ a.low in cc
            | else-is_field x ↦ rw (sym c.is_field.ensures ∙ x.if-is_field.false) at a.field
          ]
        ]
      ]
    ]
