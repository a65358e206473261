-- `receive` meets its contract: refused, all stays; else inner word and its map, delays and outer word are what its parts promise.
use Rattle.std.proofs.Common.{refl, sym, ap, ◌∙◌}
use Rattle.interleave.specs.Numbers.{passed}
use Rattle.cross.specs.Numbers.{cross_error}
use Rattle.cross.specs.Cross.{FrameOutcome, told}
use Rattle.cross.specs.Checks.{told_back}
use Rattle.cross.proofs.receiver.receive.Goals as goal

pub returns : goal.returns
returns c =
    let z = passed cross_error _ _ _ c.in_ok-check_receive.ensures in
    let (mark, passed, map) = c.open_inner-mark.ensures in
    let (memory, bytes) = rw passed at c.hold_back.ensures in
    let (held, marks) = rw (c.filled-marks.ensures, mark) at c.hold_back-2.ensures in
    let o = rw (bytes, marks) at c.settle.ensures in
    let figures = sym (told_back c.settle.result c.settle.new.message) ∙ ap told o in
    let message = ap (λ (x : FrameOutcome). x.message) o in
    record { outcome = rw (z, c.next.ensures, figures, message, memory, held, map) refl }
