use Rattle.std.proofs.Common.{◌∙◌, [], get_or, ap, subst, ◌-◌}
use Rattle.glk_obj.specs.Object.{IsObject}
use Rattle.glk_arena.specs.ImportRefs.{no_package}
use Rattle.glk_arena.proofs.WorldLemmas.{object_is}
use Rattle.glk_arena.proofs.loaded.Loaded.object.Goals as goal

pub overflow_sub-n : goal.overflow_sub-n
overflow_sub-n c =
    (object_is c.args.self.now c.args.n _ _ c.package_of_object-p.ensures.inside c.package_of_object-p.ensures.value c.first_object-first.ensures c.requires).0

pub object-requires : goal.object-requires
object-requires c =
    let found = object_is c.args.self.now c.args.n _ _ c.package_of_object-p.ensures.inside c.package_of_object-p.ensures.value c.first_object-first.ensures c.requires in
    rw (c.package.ensures no_package) found.1

pub returns-clause-object : goal.returns-clause-object
returns-clause-object c =
    let found = object_is c.args.self.now c.args.n _ _ c.package_of_object-p.ensures.inside c.package_of_object-p.ensures.value c.first_object-first.ensures c.requires in
    let same = ap (λ p. get_or p.objects (c.args.n - c.first_object-first.result) []) (c.package.ensures no_package) ∙ found.2 in
    subst IsObject same c.object.ensures.object

pub returns-clause-value : goal.returns-clause-value
returns-clause-value c =
    let found = object_is c.args.self.now c.args.n _ _ c.package_of_object-p.ensures.inside c.package_of_object-p.ensures.value c.first_object-first.ensures c.requires in
    let same = ap (λ p. get_or p.objects (c.args.n - c.first_object-first.result) []) (c.package.ensures no_package) ∙ found.2 in
    c.object.ensures.value ∙ same
