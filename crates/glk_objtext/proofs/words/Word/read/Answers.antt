use Rattle.glk_objtext.proofs.WordSteps.{word_passed, word_found}
use Rattle.glk_objtext.specs.Words.{words}
use Rattle.glk_objtext.proofs.words.Word.read.Goals as goal

pub returns-then-eq : goal.returns-then-eq
returns-then-eq c = word_found words _ _ _ _ _ c.loop-word-test.true c.loop-word.invariant c.spelling.ensures c.if-eq.ensures

pub loop-word-preserved : goal.loop-word-preserved
loop-word-preserved c = word_passed words _ _ _ _ _ c.loop-word-test.true c.loop-word.invariant c.spelling.ensures c.if-eq.ensures
