use Rattle.std.proofs.Common.{◌∙◌, length, ap, arith}
use Rattle.glk_arena.specs.World.{objects_of}
use Rattle.glk_arena.proofs.TableLemmas.{table_objects, table_fits}
use Rattle.glk_arena.proofs.loaded.Loaded.objects.Goals as goal

pub overflow_cast-result : goal.overflow_cast-result
overflow_cast-result c = let fits = table_fits _ _ _ _ _ _ c.self.invariant.tables in omega (arith, fits, c.len.ensures, c.self.inside.owners.ok.0)

pub returns : goal.returns
returns c =
    let is = table_objects _ _ _ _ _ _ c.self.invariant.tables ∙ ap (λ w. length (objects_of w)) c.self.view_is in
    omega (arith, is, c.len.ensures, c.self.inside.owners.ok.0)
