-- A symbol that stands apart is one of the slots.
use native.Mathlib.Omega.{arith}
use Prim.Native.Nat.{◌+◌, ◌*◌, ◌<◌}
use lib.ListN.{length}
use Rattle.checks.specs.Spaced.{length_spaced, spaced_one}
use Rattle.checks.proofs.symbols.ApartSymbols.one.Goals as goal

slot : (c : goal.Start) → c.args.i * c.args.self.step + c.args.self.first < length c.args.self.slots.now
slot c =
    let a = c.args.self in
    a.within.each c.args.i (omega (arith, c.requires, length_spaced a.step a.first a.n a.slots.now))

pub overflow_mul-i : goal.overflow_mul-i
overflow_mul-i c = record { fits = let l = slot c in omega arith }

pub overflow_add-i : goal.overflow_add-i
overflow_add-i c = record { fits = let l = slot c in omega arith }

pub bounds-self-i : goal.bounds-self-i
bounds-self-i c = slot c

pub returns : goal.returns
returns c =
    let a = c.args.self in
    spaced_one _ _ _ _ _ _ (omega (arith, c.requires, length_spaced a.step a.first a.n a.slots.now)) c.wide.ensures.0 c.wide.ensures.1
