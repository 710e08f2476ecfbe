use Rattle.std.proofs.Common.{◌≡◌, ◌++◌, map, length}
use Rattle.glk_frames.specs.Written.{u32s_bytes}
use Rattle.glk_pctab.specs.Section.{file_offset}
use Rattle.glk_pctab.specs.Building.{entries_view}
use Rattle.glk_pctab.proofs.section.push_cutab.Given as goal

abbrev pub invariant-loop-rest : goal.invariant-loop-rest
invariant-loop-rest l =
    l.out.items ++ u32s_bytes (map (file_offset l.files.elements) (entries_view l.rest)) ≡ l.fn.out.items ++ u32s_bytes (map (file_offset l.files.elements) (entries_view l.entries))

abbrev pub decreases-loop-rest : goal.decreases-loop-rest
decreases-loop-rest l = length l.rest
