use Rattle.std.proofs.Common.{◌≡◌, drop}
use Rattle.glk_pctab.specs.Contents.{with_all}
use Rattle.glk_pctab.specs.Functions.{pcdata_of}
use Rattle.glk_pctab.specs.Section.{some_tables}
use Rattle.glk_pctab.specs.Views.{function_view}
use Rattle.glk_pctab.proofs.lists.add_pcdata.Given as goal

abbrev pub invariant-loop-k : goal.invariant-loop-k
invariant-loop-k l = with_all l.pool (some_tables (drop l.k (pcdata_of (function_view l.function)))) ≡ with_all l.fn.pool (some_tables (pcdata_of (function_view l.function)))
