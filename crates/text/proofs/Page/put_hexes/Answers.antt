-- `put_hexes` meets its contract: each byte writes its own two digits.
use mathlib.Core.Path.{refl}
use Rattle.std.proofs.Common.{rules}
use native.Mathlib.Omega.{arith}
use Rattle.text.specs.Pieces.{hexes_begun, hexes_room, hexes_on, hexes_done}
use Rattle.text.proofs.Page.put_hexes.Goals as goal

pub loop-byte-init : goal.loop-byte-init
loop-byte-init c = hexes_begun c.args.bytes.now _ (omega arith)

pub put_hex-requires : goal.put_hex-requires
put_hex-requires c = hexes_room _ _ _ _ c.loop-byte.invariant c.requires c.loop-byte-test.true

pub loop-byte-preserved : goal.loop-byte-preserved
loop-byte-preserved c = hexes_on _ _ _ _ c.loop-byte.invariant _ c.loop-byte-test.true c.put_hex.ensures

pub returns : goal.returns
returns c =
    let done = hexes_done _ _ _ _ c.loop-byte.invariant c.loop-byte-test.false in
    let same = done.whole.same in
    let written = done.whole.written in
    record { whole = record { same = refl; written = search rules }; within = done.within }
