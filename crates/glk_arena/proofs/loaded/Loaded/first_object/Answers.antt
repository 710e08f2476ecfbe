use Rattle.std.proofs.Common.{◌∙◌, ap, length, arith}
use Rattle.glk_arena.specs.World.{first_object}
use Rattle.glk_arena.proofs.TableLemmas.{table_first}
use Rattle.glk_arena.proofs.loaded.Loaded.first_object.Goals as goal

pub returns : goal.returns
returns c =
    table_first _ _ _ _ _ _ c.self.invariant.tables c.args.p c.index.result.now (omega (arith, c.requires, ap length c.self.view_is)) c.index.ensures
    ∙ ap (λ w. first_object w c.args.p) c.self.view_is
