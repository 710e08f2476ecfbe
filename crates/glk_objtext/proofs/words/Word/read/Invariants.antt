use Rattle.std.proofs.Common.{◌≡◌, drop}
use Rattle.glk_objtext.specs.Words.{word_among, words}
use Rattle.glk_objtext.proofs.words.Word.read.Given as goal

abbrev pub invariant-loop-word : goal.invariant-loop-word
invariant-loop-word l = word_among (drop l.word-index words) l.field ≡ word_among words l.field
