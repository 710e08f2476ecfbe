use Rattle.std.proofs.Common.{◌≡◌, ◌++◌, drop}
use Rattle.glk_frames.specs.Written.{u32s_bytes}
use Rattle.glk_pctab.specs.Functions.{funcdata_of}
use Rattle.glk_pctab.specs.Views.{function_view}
use Rattle.glk_pctab.proofs.records.push_funcdata.Given as goal

abbrev pub invariant-loop-k : goal.invariant-loop-k
invariant-loop-k l =
    l.out.items ++ u32s_bytes (drop l.k (funcdata_of l.tree (function_view l.function))) ≡ l.fn.out.items ++ u32s_bytes (funcdata_of l.tree (function_view l.function))
