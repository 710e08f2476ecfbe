use Rattle.std.proofs.Common.{◌∙◌, [], get_or, ap, arith}
use Rattle.glk_obj.specs.Blocks.{count, autolib}
use Rattle.glk_arena.specs.Tables.{object_number}
use Rattle.glk_arena.specs.ImportRefs.{no_package}
use Rattle.glk_arena.proofs.ImportRefLemmas.{package_start, package_more, package_end}
use Rattle.glk_arena.proofs.imports.add_package.Goals as goal

pub loop-object-init : goal.loop-object-init
loop-object-init c = package_start c.args.list.now c.args.p c.args.refs.now.items c.requires.refs

pub loop-object-preserved : goal.loop-object-preserved
loop-object-preserved c =
    let size = ap object_number (c.package-package.ensures no_package) in
    let goobj = c.object.ensures.value ∙ ap (λ p. get_or p.objects c.loop-object.object []) (c.package-package.ensures no_package) in
    package_more c.args.list.now c.args.p c.loop-object.object c.count-entries.result c.loop-object.refs.items c.add_object.new.refs.items c.requires.package
    (omega (arith, size, c.objects-object-end.ensures, c.loop-object-test.true)) (c.count-entries.ensures.value ∙ ap (λ o. count o autolib) goobj) c.in_ok-add_object.ensures c.loop-object.invariant

pub returns : goal.returns
returns c =
    let size = ap object_number (c.package-package.ensures no_package) in
    package_end c.args.list.now c.args.p c.loop-object.object c.loop-object.refs.items c.requires.package (omega (arith, size, c.objects-object-end.ensures, c.loop-object-test.false)) c.loop-object.invariant
