use Rattle.std.proofs.Common.{◌∙◌, ap, length, arith}
use Rattle.glk_arena.specs.World.{objects_of, package_of_object}
use Rattle.glk_arena.proofs.TableLemmas.{table_owner, table_objects}
use Rattle.glk_arena.proofs.loaded.Loaded.package_of_object.Goals as goal

pub index-requires : goal.index-requires
index-requires c =
    let all = table_objects _ _ _ _ _ _ c.self.invariant.tables in
    omega (arith, all, ap (λ w. length (objects_of w)) c.self.view_is, c.requires, c.self.inside.owners.ok.0)

pub returns-clause-value : goal.returns-clause-value
returns-clause-value c =
    let found = table_owner _ _ _ _ _ _ c.self.invariant.tables c.args.n c.index.result.now (omega (arith, ap (λ w. length (objects_of w)) c.self.view_is, c.requires)) c.index.ensures in
    found.0 ∙ ap (λ w. package_of_object w c.args.n) c.self.view_is

pub returns-clause-inside : goal.returns-clause-inside
returns-clause-inside c =
    let found = table_owner _ _ _ _ _ _ c.self.invariant.tables c.args.n c.index.result.now (omega (arith, ap (λ w. length (objects_of w)) c.self.view_is, c.requires)) c.index.ensures in
    omega (arith, found.1, ap length c.self.view_is)
