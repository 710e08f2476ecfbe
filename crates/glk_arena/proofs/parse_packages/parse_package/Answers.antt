use Rattle.std.proofs.Common.{Option, IfSome, subst}
use Rattle.glk_package.specs.ObjectRules.{rules_view}
use Rattle.glk_arena.specs.declared.stored.StoredObjects.{StoredObjects}
use Rattle.glk_arena.specs.WaveFiles.{IsFoundUniform}
use Rattle.glk_arena.proofs.SharedRules.{found_meets}
use Rattle.glk_arena.proofs.parse_packages.parse_package.Goals as goal

pub returns-then-meets_rules-clause-ok : goal.returns-then-meets_rules-clause-ok
returns-then-meets_rules-clause-ok c =
    let F : Option StoredObjects → Type 0 = λ found. IfSome found (IsFoundUniform c.args.file.now) in
    let found : IsFoundUniform c.args.file.now c.in-Some.found = subst F c.in-Some.is c.requires.found in
    found_meets (rules_view c.args.rules) c.args.file.now c.in-Some.found found.holds (c.meets_rules.ensures c.if-meets_rules.true)
