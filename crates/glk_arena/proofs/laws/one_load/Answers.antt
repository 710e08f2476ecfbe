use Rattle.std.proofs.Common.{[]}
use Rattle.glk_arena.proofs.OneLoad.{loads_once}
use Rattle.glk_arena.specs.Waves.{first_wave}
use Rattle.glk_arena.proofs.laws.one_load.Goals as goal

pub returns : goal.returns
returns c inputs files one other a b = loads_once inputs files [] (first_wave inputs.listed) one other a b
