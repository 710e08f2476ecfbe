use Rattle.std.proofs.Common.{arith}
use Rattle.glk_pctab.specs.Functions.{pcdata_of}
use Rattle.glk_pctab.specs.Views.{function_view}
use Rattle.glk_pctab.proofs.AddLemmas.{some_next, some_last}
use Rattle.glk_pctab.proofs.lists.add_pcdata.Goals as goal

pub loop-k-preserved : goal.loop-k-preserved
loop-k-preserved c =
    some_next c.loop-k.pool c.add_table.new.pool (pcdata_of (function_view c.args.function.now)) c.loop-k.k _ _ (omega (arith, c.pcdata_count-k-end.ensures)) c.pcdata_at.ensures c.in_ok-add_table.ensures c.loop-k.invariant

pub returns : goal.returns
returns c = some_last c.loop-k.pool (pcdata_of (function_view c.args.function.now)) c.loop-k.k _ (omega (arith, c.pcdata_count-k-end.ensures)) c.loop-k.invariant
