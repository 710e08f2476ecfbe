use Rattle.std.proofs.Common.{◌∙◌, ◌/◌}
use Rattle.glk_keys.proofs.HashLaws.{ends_next}
use Rattle.glk_keys.proofs.keys.ends_hash.Goals as goal

pub loop-k-preserved : goal.loop-k-preserved
loop-k-preserved c = record {
  words = c.loop-k.invariant.words;
  hashes = ends_next c.args.name.now c.loop-k.k (c.min-words.result / 8) c.loop-k.hash c.ends_step-hash.result c.loop-k-test.true c.ends_step-hash.ensures ∙ c.loop-k.invariant.hashes;
}
