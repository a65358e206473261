-- `packed::bytes::symbol_of` meets its contract.
use native.Mathlib.Omega.{arith}
use mathlib.Core.Path.{◌≡◌, sym, ap, ◌∙◌}
use Prim.Native.Nat.{◌+◌, ◌-◌}
use Rattle.algebra.specs.Bytes.{byte, whole, whole_low, whole_high}
use borrow.Author.Rules.{rules}
use Rattle.packed.proofs.bytes.symbol_of.Goals as goal

pub returns-then-i-lt8 : goal.returns-then-i-lt8
returns-then-i-lt8 c = c.byte_of.ensures ∙ sym (whole_low _ _ _ (search rules) (search rules))

pub returns : goal.returns
returns c =
    let a = c.args in
    let e : 8 + (a.i - 8) ≡ a.i = omega arith in
    c.byte_of-2.ensures ∙ sym (whole_high a.p.low a.p.high (a.i - 8) (search rules)) ∙ ap (byte (whole a.p.low a.p.high)) e
