-- `checks::tables::first_bits` meets its contract. The invariant: d is the polynomial times a^i, the first i rows stand, and the others are zero.
use mathlib.Core.Path.{refl}
use native.Mathlib.Omega.{arith}
use borrow.Author.Rules.{rules}
use Rattle.algebra.specs.Bytes.{holds_bytes}
use Rattle.checks.specs.Starts.{doubling_none, doubling_more, doubling_all, zeros}
use Rattle.checks.specs.OneWord.{alone_moved, unused_none, unused_set}
use Rattle.checks.proofs.tables.first_bits.Goals as goal

pub loop-i-init : goal.loop-i-init
loop-i-init g c = record {
  doubling = doubling_none _ _ _ _ _ _ (search rules) c.requires.0 (holds_bytes _ _ (search rules) (search rules)) refl refl (zeros 8) (zeros 8);
  alone = c.requires.1;
  unused = unused_none _;
}

pub loop-i-preserved : goal.loop-i-preserved
loop-i-preserved g c =
    let o = c.loop-i.invariant in
    let put = c.set_bit.ensures in
    record {
      doubling = rw (put.lower, put.upper)
          (doubling_more _ _ _ _ _ _ _ _ _ (omega (arith, c.width-i-end.ensures.0)) (omega (arith, c.width-i-end.ensures.1)) (search rules) o.doubling c.doubled-d.ensures.each);
      alone = alone_moved _ _ _ c.doubled-d.ensures.zero o.alone;
      unused = rw put.upper (unused_set _ _ _ _ o.unused o.alone);
    }

pub returns : goal.returns
returns g c = record {
  basis = doubling_all _ _ _ _ _ _ _ (omega (arith, c.width-i-end.ensures.0)) c.loop-i.invariant.doubling;
  unused = c.loop-i.invariant.unused;
}
