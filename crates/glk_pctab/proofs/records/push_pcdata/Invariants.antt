use Rattle.std.proofs.Common.{◌≡◌, ◌++◌, drop, map}
use Rattle.glk_frames.specs.Written.{u32s_bytes}
use Rattle.glk_pctab.specs.Functions.{pcdata_of}
use Rattle.glk_pctab.specs.Section.{table_offset}
use Rattle.glk_pctab.specs.Views.{function_view}
use Rattle.glk_pctab.proofs.records.push_pcdata.Given as goal

abbrev pub invariant-loop-k : goal.invariant-loop-k
invariant-loop-k l =
    l.out.items ++ u32s_bytes (drop l.k (map (table_offset l.tables.elements) (pcdata_of (function_view l.function))))
    ≡ l.fn.out.items ++ u32s_bytes (map (table_offset l.tables.elements) (pcdata_of (function_view l.function)))
