use Rattle.glk_arena.proofs.SomeLoad.{some_load}
use Rattle.glk_arena.proofs.laws.some_load.Goals as goal

pub returns : goal.returns
returns c = some_load
