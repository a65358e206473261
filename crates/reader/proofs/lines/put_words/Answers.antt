-- `put_words` meets its contract: each word adds its own line.
use native.Mathlib.Omega.{arith}
use Rattle.reader.specs.Lines.Laws.{words_begun_within, words_on_within}
use Rattle.reader.proofs.lines.put_words.Goals as goal

pub loop-w-init : goal.loop-w-init
loop-w-init c = words_begun_within _ _ (omega arith)

pub loop-w-preserved : goal.loop-w-preserved
loop-w-preserved c = words_on_within _ _ c.loop-w.invariant c.put_word.ensures
