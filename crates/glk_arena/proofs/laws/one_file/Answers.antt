use Rattle.glk_arena.proofs.ConfigLemmas.{one_file}
use Rattle.glk_arena.proofs.laws.one_file.Goals as goal

pub returns : goal.returns
returns c = one_file
