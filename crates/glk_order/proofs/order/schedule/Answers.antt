use Rattle.std.proofs.Common.{rules}
use Rattle.glk_order.proofs.NoCycles.{no_cycle}
use Rattle.glk_order.proofs.Searches.{reached_inside}
use Rattle.glk_order.proofs.order.schedule.Goals as goal

pub returns-in-None-clause-no_cycle : goal.returns-in-None-clause-no_cycle
returns-in-None-clause-no_cycle c = λ t cycle.
    let inside = reached_inside c.args.count c.args.edges.now t t c.requires.inside cycle in
    no_cycle c.args.count c.args.edges.now c.in_ok-progress.progress.list.items c.in_ok-progress.ensures.order t
    (c.in_ok-progress.ensures.marks.contained t (search rules)) cycle
