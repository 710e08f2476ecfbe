use Rattle.std.proofs.Common.{arith, sym, ◌∙◌}
use Rattle.glk_functions.proofs.Named.{count_fits}
use Rattle.glk_functions.proofs.auxes.named_count.Goals as goal

pub overflow_add-count : goal.overflow_add-count
overflow_add-count c =
    let fits = count_fits c.args.kind c.args.auxes.now c.loop-rest.rest.now _ c.loop-rest.count c.loop-rest.invariant c.in-len1-up.len_at_least (sym c.names_as.ensures ∙ c.if-names_as.true) c.requires in
    omega (arith, fits)
