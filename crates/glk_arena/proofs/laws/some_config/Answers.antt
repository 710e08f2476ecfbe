use Rattle.glk_arena.proofs.SomeConfig.{some_config}
use Rattle.glk_arena.proofs.laws.some_config.Goals as goal

pub returns : goal.returns
returns c = some_config
