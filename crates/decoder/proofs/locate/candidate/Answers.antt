-- `decoder::locate::candidate` meets its contract: each way of the test is one law of the flag.
use Rattle.std.specs.Prelude.{◌≡◌, refl, true, false}
use Rattle.std.proofs.Common.{◌∙◌, ne_eqb, arith}
use Rattle.std.proofs.Math.Decide.{ℕ_discrete}
use Rattle.decoder.specs.Candidates.{flag_marked, flag_root, flag_none}
use Rattle.decoder.proofs.locate.candidate.Goals as goal
use Rattle.decoder.proofs.locate.candidate.Goals.{then-mark-ne0, else-mark-ne0}

pub returns : goal.returns
returns c = elim c.if-mark-ne0.branch [
  | then-mark-ne0 w ↦
      let e : c.if-mark-ne0.from ≡ true = w.from-is ∙ rw (ne_eqb c.args.mark 0 w.if-mark-ne0.true) refl in
      c.from.ensures ∙ rw e (flag_marked _ _ _ (omega arith))
  | else-mark-ne0 w ↦ elim (ℕ_discrete w.low.result 0) [
    | yes z ↦
        let e : c.if-mark-ne0.from ≡ true = w.from-is ∙ rw z refl in
        c.from.ensures ∙ rw e (flag_root _ _ _ w.low.result w.low.ensures z)
    | no n ↦
        let e : c.if-mark-ne0.from ≡ false = w.from-is ∙ rw (ne_eqb w.low.result 0 n) refl in
        c.from.ensures ∙ rw e (flag_none _ _ _ w.low.result w.low.ensures w.if-mark-ne0.false n)
  ]
]
