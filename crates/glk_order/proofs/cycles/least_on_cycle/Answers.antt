use Rattle.std.proofs.Common.{sym, subst, arith}
use Rattle.glk_order.specs.Order.{Needs}
use Rattle.glk_order.proofs.cycles.least_on_cycle.Goals as goal

pub some_on_cycle-requires-clause-stuck : goal.some_on_cycle-requires-clause-stuck
some_on_cycle-requires-clause-stuck c = λ task inside unlisted all.
    let size = c.requires.size in
    c.requires.stuck task (omega (arith, size, inside)) unlisted
    (λ target need. all target (subst (λ es. Needs es task target) (sym c.in_ok-needs.ensures.edges) need))
