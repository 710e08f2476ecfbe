use Rattle.glk_gen.specs.Configs.{config_line}
use Rattle.glk_gen.proofs.Ranges.{flat_map_more}
use Rattle.glk_gen.proofs.world.importcfg.Goals as goal

pub loop-k-preserved : goal.loop-k-preserved
loop-k-preserved c = flat_map_more config_line c.loop-k.k c.loop-k.out.items c.push_config_line.new.out.items c.loop-k.invariant c.in_ok-push_config_line.ensures
