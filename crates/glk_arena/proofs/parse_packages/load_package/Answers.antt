use Rattle.std.proofs.Common.{ℕ, List, subst}
use Rattle.glk_package.specs.ObjectRules.{rules_view}
use Rattle.glk_arena.specs.LoadParts.{HoldsStored, IsPackageIn}
use Rattle.glk_arena.proofs.FormatLemmas.{package_is}
use Rattle.glk_arena.proofs.parse_packages.load_package.Goals as goal

pub returns-in-Ok-clause-ok : goal.returns-in-Ok-clause-ok
returns-in-Ok-clause-ok c =
    let H : List ℕ → Type 0 = λ file. HoldsStored (rules_view c.args.rules) file c.in-Ok.kept in
    let P : List ℕ → Type 0 = λ file. IsPackageIn (rules_view c.args.rules) c.args.name.now file c.new-in-Ok.result in
    subst P c.into_parts-file.ensures.file (package_is (rules_view c.args.rules) c.args.name.now c.in_ok-name.name c.into_parts-file.result.0 c.in-Ok.kept c.new-in-Ok.result c.in_ok-name.ensures
    (subst H c.as_bytes.ensures c.in-Ok.ensures.ok) c.new-in-Ok.ensures.value)
