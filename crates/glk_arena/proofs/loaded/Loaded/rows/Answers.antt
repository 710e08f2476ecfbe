use Rattle.std.proofs.Common.{ap, ◌∙◌}
use Rattle.glk_arena.specs.World.{symbol_count}
use Rattle.glk_arena.proofs.TableLemmas.{table_symbols}
use Rattle.glk_arena.proofs.loaded.Loaded.rows.Goals as goal

pub returns : goal.returns
returns c = table_symbols _ _ _ _ _ _ c.self.invariant.tables ∙ ap symbol_count c.self.view_is
