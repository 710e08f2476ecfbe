use Rattle.glk_reach.proofs.IndexLaws.{no_indices}
use Rattle.glk_reach.proofs.indices.all_indices.Goals as goal

pub loop-key-init : goal.loop-key-init
loop-key-init c = no_indices c.args.merged.now.program c.new-indices.result c.new-indices.ensures.empty
