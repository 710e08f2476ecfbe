use Rattle.glk_arena.proofs.OwnPaths.{own_paths}
use Rattle.glk_arena.proofs.laws.own_paths.Goals as goal

pub returns : goal.returns
returns c = own_paths
