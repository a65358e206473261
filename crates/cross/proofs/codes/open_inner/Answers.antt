-- `codes::open_inner` meets its contract: it is what `decode_part` promises of a part that holds the first 28 bytes of the word, and what was in
-- the map before does not count.
use mathlib.Core.Path.{◌≡◌, ◌∙◌}
use native.Mathlib.Omega.{arith}
use lib.Dec.{T}
use lib.ListN.{length, take, length-take}
use lib.Seq.{take_all, length-take-le}
use Rattle.algebra.specs.Tests.{below, below_all}
use Rattle.cross.specs.Codes.{inner_given}
use Rattle.cross.proofs.codes.open_inner.Goals as goal

pub slice_bounds-copy-end : goal.slice_bounds-copy-end
slice_bounds-copy-end c = omega (arith, c.requires.0)

pub copy-requires : goal.copy-requires
copy-requires c =
    let word = c.args.word.now in
    let front : length (take 28 word) ≡ 28 = length-take-le 28 word (omega (arith, c.requires.0)) in
    omega (arith, front, c.requires.1)

pub returns : goal.returns
returns c =
    let word = c.args.word.now in
    let bytes : T (below 256 word) = below_all 256 word λ i l. omega (arith, (c.shared_slice_known-1.given i).fits) in
    let front = rw c.requires.1 at c.copy.ensures in
    let whole : take 28 (take 28 word) ≡ take 28 word = take_all 28 (take 28 word) (omega (arith, length-take 28 word)) in
    let promised = rw (c.inner_code.ensures, c.filled-marks.ensures, front, whole) at c.decode_part.ensures in
    let (mark, passed, map) = inner_given word c.requires.0 bytes _ c.requires.2 _ _ _ promised in
    (c.mark_of.ensures ∙ mark, passed, map)
