use Rattle.glk_arena.proofs.StoredLemmas.{stored_more}
use Rattle.glk_arena.proofs.stored.store_list.Goals as goal

pub loop-object-preserved : goal.loop-object-preserved
loop-object-preserved c =
    let next = stored_more c.args.file.now c.loop-object.list.items c.push.new.self.items c.args.objects.now c.loop-object.object-index c.object-item.result c.store_object.result
    c.loop-object-test.true c.object-item.is c.store_object.ensures.same c.store_object.ensures.stored c.loop-object.invariant.same c.loop-object.invariant.stored c.in_ok-push.ensures.items in
    record { same = next.0; stored = next.1 }
