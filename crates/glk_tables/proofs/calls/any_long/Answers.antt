use Rattle.std.proofs.Common.{length, get_or, sym, arith}
use Rattle.glk_tables.specs.Calls.{is_long}
use Rattle.glk_tables.specs.Chains.{link}
use Rattle.glk_tables.proofs.ChainLemmas.{not_long, any_passes, any_fails}
use Rattle.glk_tables.proofs.calls.any_long.Goals as goal

pub returns-in-None : goal.returns-in-None
returns-in-None c = sym (any_passes (is_long (link c.args.callers.now)) (length c.args.callers.now) c.loop-k.k (omega arith) c.in-None.ensures)

pub returns : goal.returns
returns c =
    sym (any_fails (is_long (link c.args.callers.now)) (length c.args.callers.now)
    (λ k below. not_long c.args.callers.now (get_or c.loop-k.lengths.items k 0) k (c.loop-k.invariant.lengths.each k (c.loop-k.invariant.known k (omega arith)))))
