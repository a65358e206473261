-- Document 01, "Worked table": P1 to P13 under one claim, `worked_table`. Each item is what every answer of the call is that meets its
-- promise (`specs/Gives.antt`). The program of this crate runs the same items. The maps are those of document 02, No. 6.
-- Assumes nothing.
use Rattle.std.specs.Prelude.{refl, Ok, Err, [], ◌∷◌, T}
use Rattle.std.proofs.Math.Decide.{ℕ_discrete}
use Rattle.std.specs.Int.Count.{ones, ones_in}
use Rattle.std.proofs.Common.{lit≤, lit<}
use Rattle.algebra.specs.Xor.{◌⊕◌}
use Rattle.algebra.specs.Tests.{total, each, below, below_same}
use Rattle.algebra.specs.Lists.{tabulate}
use Rattle.field.specs.Field.{times, reduce, product, power}
use Rattle.field.specs.Answers.{is_field, is_element, product_of}
use Rattle.field.specs.Once.{product_once}
use Rattle.word.specs.Setting.{allowed}
use Rattle.word.specs.Word.{value_from, error_of, errors, marked, bits}
use Rattle.word.specs.Map.{change_of, changes}
use Rattle.word.specs.Codeword.{is_codeword, qualifies}
use Rattle.algebra.specs.Sets.{put}
use Rattle.algebra.specs.Refusal.{need}
use Rattle.word.specs.Answers.{decode_refusal}
use Rattle.word.specs.declared.Setting.{Setting}
use Rattle.word.specs.declared.DecodeError.TheVariants.{BeyondReach}
use Rattle.rings.specs.Rings.{ring, tri}
use Rattle.rings.specs.Delay.{answer, memory, position, line_out, line_kept}
use Rattle.interleave.specs.Block.{transposed}
use Rattle.interleave.specs.Line.{common, period}
use Rattle.interleave.specs.Setting as line
use Rattle.record.specs.Order.{compared}
use Rattle.record.specs.declared.Kind.TheVariants.{Newer, Older}
use Rattle.worked.specs.Gives.{Multiplies, EncodesTo, DecodesTo, accepted, SpreadsTo, SendsTo, ReceivesTo, Judges}
use Rattle.worked.specs.Words.{made, found, lost}
use Rattle.worked.specs.Far.{code_s, allowed_s, none_near, too_many}
use Rattle.worked.specs.Slots.{spreads, sends, receives}
use Rattle.worked.specs.Judged.{judges}

-- 002's code
abbrev pub code002 : Setting
code002 = record { m = 3; n = 7; r = 4; b = 1 }

pub record WorkedTable : Type 0 where
  -- m = 3: 2·5 = 1
  pub p1 : Multiplies 3 2 5 1
  -- m = 8: 128·2 = 29
  pub p2 : Multiplies 8 128 2 29
  -- 002's code: message 7,3,2 encodes to 7,3,2,5,6,4,1
  pub p3 : EncodesTo code002 (7 ∷ 3 ∷ 2 ∷ []) (7 ∷ 3 ∷ 2 ∷ 5 ∷ 6 ∷ 4 ∷ 1 ∷ [])
  -- 7,3,5,1,6,4,1 unmarked: that word, e 2, bits 4; changed at the third and fourth place
  pub p4 : DecodesTo code002 (7 ∷ 3 ∷ 5 ∷ 1 ∷ 6 ∷ 4 ∷ 1 ∷ []) (0 ∷ 0 ∷ 0 ∷ 0 ∷ 0 ∷ 0 ∷ 0 ∷ []) (accepted 2 0 4) (7 ∷ 3 ∷ 2 ∷ 5 ∷ 6 ∷ 4 ∷ 1 ∷ []) (0 ∷ 0 ∷ 1 ∷ 1 ∷ 0 ∷ 0 ∷ 0 ∷ [])
  -- S: message 1 gives 1,3,2
  pub p5 : EncodesTo code_s (1 ∷ []) (1 ∷ 3 ∷ 2 ∷ [])
  -- S: 0,3,2 gives 1,3,2, e 1, bits 1; map 1,0,0
  pub p6 : DecodesTo code_s (0 ∷ 3 ∷ 2 ∷ []) (0 ∷ 0 ∷ 0 ∷ []) (accepted 1 0 1) (1 ∷ 3 ∷ 2 ∷ []) (1 ∷ 0 ∷ 0 ∷ [])
  -- S: 0,0,2 gives 0,0,0, e 1, bits 1; map 0,0,1
  pub p7 : DecodesTo code_s (0 ∷ 0 ∷ 2 ∷ []) (0 ∷ 0 ∷ 0 ∷ []) (accepted 1 0 1) (0 ∷ 0 ∷ 0 ∷ []) (0 ∷ 0 ∷ 1 ∷ [])
  -- S: 0,0,2 marked 1,1,0 gives 1,3,2, f 2, e 0, bits 3; map 1,1,0
  pub p8 : DecodesTo code_s (0 ∷ 0 ∷ 2 ∷ []) (1 ∷ 1 ∷ 0 ∷ []) (accepted 0 2 3) (1 ∷ 3 ∷ 2 ∷ []) (1 ∷ 1 ∷ 0 ∷ [])
  -- S: 0,1,2 unmarked is refused, 4; map 0,0,0
  pub p9 : DecodesTo code_s (0 ∷ 1 ∷ 2 ∷ []) (0 ∷ 0 ∷ 0 ∷ []) (Err BeyondReach) (0 ∷ 1 ∷ 2 ∷ []) (0 ∷ 0 ∷ 0 ∷ [])
  -- S: 1,3,2 marked 1,1,1 is refused, 4; map 0,0,0
  pub p10 : DecodesTo code_s (1 ∷ 3 ∷ 2 ∷ []) (1 ∷ 1 ∷ 1 ∷ []) (Err BeyondReach) (1 ∷ 3 ∷ 2 ∷ []) (0 ∷ 0 ∷ 0 ∷ [])
  -- J = 2, words 1,3,2 and 2,6,4: slots 1,2,3,6,2,4
  pub p11 : SpreadsTo 2 3 (1 ∷ 3 ∷ 2 ∷ 2 ∷ 6 ∷ 4 ∷ []) (1 ∷ 2 ∷ 3 ∷ 6 ∷ 2 ∷ 4 ∷ [])
  -- I = 2, M = 2, bytes 1 to 8: out 1,0,3,0,5,2,7,4. Fed to the receiver: 0,0,0,0,1,2,3,4, marks 1,0,1,0,0,0,0,0. (4 is the one n that fits.)
  pub p12 : SendsTo 2 2 4 (1 ∷ 2 ∷ 3 ∷ 4 ∷ 5 ∷ 6 ∷ 7 ∷ 8 ∷ []) (1 ∷ 0 ∷ 3 ∷ 0 ∷ 5 ∷ 2 ∷ 7 ∷ 4 ∷ [])
      × ReceivesTo 2 2 4 (1 ∷ 0 ∷ 3 ∷ 0 ∷ 5 ∷ 2 ∷ 7 ∷ 4 ∷ []) (0 ∷ 0 ∷ 0 ∷ 0 ∷ 0 ∷ 0 ∷ 0 ∷ 0 ∷ []) (0 ∷ 0 ∷ 0 ∷ 0 ∷ 1 ∷ 2 ∷ 3 ∷ 4 ∷ []) (1 ∷ 0 ∷ 1 ∷ 0 ∷ 0 ∷ 0 ∷ 0 ∷ 0 ∷ [])
  -- last 65535, new 2: newer; last 0: 32767 newer, 32768 older
  pub p13 : Judges 65535 2 Newer × Judges 0 32767 Newer × Judges 0 32768 Older

-- ---- its settings stand

allowed002 : T (allowed code002)
unfolding allowed is_field
allowed002 = tt

line224 : line.Setting 2 2 4
line224 = record { branches = (lit≤ tt, lit≤ tt); unit = (lit≤ tt, lit≤ tt); size = (lit≤ tt, lit≤ tt); whole = refl; room = lit≤ tt }

-- ---- the rest is computed

pub worked_table : WorkedTable
unfolding product_of is_element need put ℕ_discrete decode_refusal allowed is_field below qualifies is_codeword each value_from error_of errors marked bits change_of changes total ones ones_in ◌⊕◌ times reduce product power transposed tabulate answer memory position line_out line_kept ring tri period common compared
worked_table = record {
  p1 = λ r e. product_once 3 2 5 r (Ok 1) e refl;
  p2 = λ r e. product_once 8 128 2 r (Ok 29) e refl;
  p3 = made code002 (7 ∷ 3 ∷ 2 ∷ []) (5 ∷ 6 ∷ 4 ∷ 1 ∷ []) allowed002 refl tt tt;
  p4 = found code002 (7 ∷ 3 ∷ 5 ∷ 1 ∷ 6 ∷ 4 ∷ 1 ∷ []) (0 ∷ 0 ∷ 0 ∷ 0 ∷ 0 ∷ 0 ∷ 0 ∷ []) refl (7 ∷ 3 ∷ 2 ∷ 5 ∷ 6 ∷ 4 ∷ 1 ∷ []) tt;
  p5 = made code_s (1 ∷ []) (3 ∷ 2 ∷ []) allowed_s refl tt tt;
  p6 = found code_s (0 ∷ 3 ∷ 2 ∷ []) (0 ∷ 0 ∷ 0 ∷ []) refl (1 ∷ 3 ∷ 2 ∷ []) tt;
  p7 = found code_s (0 ∷ 0 ∷ 2 ∷ []) (0 ∷ 0 ∷ 0 ∷ []) refl (0 ∷ 0 ∷ 0 ∷ []) tt;
  p8 = found code_s (0 ∷ 0 ∷ 2 ∷ []) (1 ∷ 1 ∷ 0 ∷ []) refl (1 ∷ 3 ∷ 2 ∷ []) tt;
  p9 = lost code_s (0 ∷ 1 ∷ 2 ∷ []) (0 ∷ 0 ∷ 0 ∷ []) refl none_near;
  p10 = lost code_s (1 ∷ 3 ∷ 2 ∷ []) (1 ∷ 1 ∷ 1 ∷ []) refl too_many;
  p11 = spreads 2 3 (1 ∷ 3 ∷ 2 ∷ 2 ∷ 6 ∷ 4 ∷ []) (record { depth = (lit≤ tt, lit≤ tt); size = (lit≤ tt, lit≤ tt) }) refl;
  p12 = (
    sends 2 2 4 line224 (1 ∷ 2 ∷ 3 ∷ 4 ∷ 5 ∷ 6 ∷ 7 ∷ 8 ∷ []),
    receives 2 2 4 line224 (1 ∷ 0 ∷ 3 ∷ 0 ∷ 5 ∷ 2 ∷ 7 ∷ 4 ∷ []) (0 ∷ 0 ∷ 0 ∷ 0 ∷ 0 ∷ 0 ∷ 0 ∷ 0 ∷ []) refl (below_same 2 8 0 (lit< tt)),
  );
  p13 = (judges 65535 2 Newer (λ m. refl), judges 0 32767 Newer (λ m. refl), judges 0 32768 Older (λ m. refl));
}
