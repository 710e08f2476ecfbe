use Rattle.std.proofs.Common.{◌≡◌, ℕ, [], get_or, ap, ◌∙◌, arith}
use Rattle.glk_obj.specs.Blocks.{count, symdef}
use Rattle.glk_arena.specs.World.{objects_of, first_object}
use Rattle.glk_link.proofs.TargetLaws.{offers_none, offers_first, some_first}
use Rattle.glk_link.proofs.world_tables.offer_by.Goals as goal

pub returns-then-object_count-eq0 : goal.returns-then-object_count-eq0
returns-then-object_count-eq0 c = offers_none c.args.loaded.now c.args.p c.object_count.result c.object_count.ensures (omega (arith, c.if-object_count-eq0.true))

pub bounds-firsts-n : goal.bounds-firsts-n
bounds-firsts-n c =
    let at = some_first c.args.loaded.now c.args.p c.object_count.result c.object_count.ensures (λ e. omega (arith, c.if-object_count-eq0.false, e)) in
    omega (arith, at.within, c.first_object-n.ensures, c.requires.firsts.begun)

pub object-requires : goal.object-requires
object-requires c =
    let at = some_first c.args.loaded.now c.args.p c.object_count.result c.object_count.ensures (λ e. omega (arith, c.if-object_count-eq0.false, e)) in
    omega (arith, at.within, c.first_object-n.ensures)

pub returns : goal.returns
returns c =
    let at = some_first c.args.loaded.now c.args.p c.object_count.result c.object_count.ensures (λ e. omega (arith, c.if-object_count-eq0.false, e)) in
    let same : c.first_object-n.result ≡ first_object c.args.loaded.now c.args.p = c.first_object-n.ensures in
    offers_first c.args.loaded.now c.args.p _ _ at
    (ap (λ (k : ℕ). get_or c.args.firsts.now k 0) same ∙ c.requires.firsts.first (first_object c.args.loaded.now c.args.p) at.within)
    (c.count.ensures.value ∙ ap (λ o. count o symdef) c.object.ensures.value ∙ ap (λ (k : ℕ). count (get_or (objects_of c.args.loaded.now) k []) symdef) same)
