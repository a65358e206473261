-- The numbers of the words before this one stand in the place.
use Prim.Native.Nat.{◌*◌}
use Rattle.link.specs.Replay.Places.{Put}
use Rattle.link.proofs.replaying.put_figures.Given as goal

abbrev pub invariant-loop-w : goal.invariant-loop-w
invariant-loop-w l = Put l.fn.figures (3 * l.w) l.place
