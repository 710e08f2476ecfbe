use Rattle.std.proofs.Common.{◌≡◌, ◌<◌, ◌∙◌, get_or, ap, length, sym, arith}
use Rattle.std.proofs.lemmas.List.{get_or_read}
use Rattle.glk_arena.specs.World.{object_count}
use Rattle.glk_arena.specs.Tables.{object_number}
use Rattle.glk_arena.specs.ImportRefs.{no_package}
use Rattle.glk_arena.proofs.WorldLemmas.{count_is, one_few}
use Rattle.glk_arena.proofs.loaded.Loaded.object_count.Goals as goal

pub overflow_cast-result : goal.overflow_cast-result
overflow_cast-result c =
    let inside : c.args.p < length c.self.inside.packages.items = omega (arith, c.requires, ap length c.self.view_is) in
    let found : c.index.result.now ≡ get_or c.self.inside.packages.items c.args.p no_package =
    get_or_read c.self.inside.packages.items c.args.p c.index.result.now inside c.index.ensures no_package in
    let few = one_few c.self.inside.packages.items c.args.p inside c.self.invariant.tables.whole in
    omega (arith, few, ap object_number found, c.objects.ensures, c.self.invariant.tables.small)

pub returns : goal.returns
returns c =
    let inside : c.args.p < length c.self.inside.packages.items = omega (arith, c.requires, ap length c.self.view_is) in
    let found : c.index.result.now ≡ get_or c.self.inside.packages.items c.args.p no_package =
    get_or_read c.self.inside.packages.items c.args.p c.index.result.now inside c.index.ensures no_package in
    c.objects.ensures ∙ ap object_number found ∙ sym (count_is c.self.inside.packages.items c.args.p inside) ∙ ap (λ w. object_count w c.args.p) c.self.view_is
