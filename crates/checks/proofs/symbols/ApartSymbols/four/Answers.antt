-- Four symbols that stand apart are four of the slots.
use native.Mathlib.Omega.{arith}
use Prim.Native.Nat.{◌+◌, ◌*◌, ◌<◌}
use lib.ListN.{length}
use Rattle.checks.specs.Spaced.{length_spaced, four_within, spaced_four}
use Rattle.checks.proofs.symbols.ApartSymbols.four.Goals as goal

slots : (c : goal.After-four_apart-arg-1) → c.args.i * c.args.self.step + c.args.self.first + 3 * c.args.self.step < length c.args.self.slots.now
slots c =
    let a = c.args.self in
    four_within _ _ _ _ _ a.within (omega (arith, c.requires, length_spaced a.step a.first a.n a.slots.now))

pub overflow_mul-i : goal.overflow_mul-i
overflow_mul-i c = record { fits = let l = slots c in omega arith }

pub overflow_add-i : goal.overflow_add-i
overflow_add-i c = record { fits = let l = slots c in omega arith }

pub four_apart-requires : goal.four_apart-requires
four_apart-requires c = slots c

pub returns : goal.returns
returns c =
    let a = c.args.self in
    spaced_four _ _ _ _ _ _ c.four_apart.ensures.bytes (omega (arith, c.requires, length_spaced a.step a.first a.n a.slots.now)) c.four_apart.ensures.value
