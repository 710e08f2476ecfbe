use Rattle.std.proofs.Common.{◌≡◌, length}
use Rattle.glk_pctab.specs.Contents.{with_all}
use Rattle.glk_pctab.specs.Section.{call_names}
use Rattle.glk_pctab.specs.Views.{calls_view}
use Rattle.glk_pctab.proofs.lists.add_calls.Given as goal

abbrev pub invariant-loop-rest : goal.invariant-loop-rest
invariant-loop-rest l = with_all l.pool (call_names (calls_view l.rest)) ≡ with_all l.fn.pool (call_names (calls_view l.calls))

abbrev pub decreases-loop-rest : goal.decreases-loop-rest
decreases-loop-rest l = length l.rest
