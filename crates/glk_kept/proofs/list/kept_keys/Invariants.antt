use Rattle.std.proofs.Common.{◌≡◌, All, false}
use Rattle.std.specs.Prelude.{slice_index_or}
use Rattle.std.specs.List.{filter_map, range_with_len}
use Rattle.glk_merge.specs.Mergings.{IsKey}
use Rattle.glk_reach.specs.KeptLists.{kept_at}
use Rattle.glk_kept.proofs.list.kept_keys.Given as goal

abbrev pub invariant-loop-row : goal.invariant-loop-row
invariant-loop-row l = record {
  listed : l.list.items ≡ filter_map (kept_at l.merged.program (λ k. slice_index_or l.kept.kept k false)) (range_with_len 0 l.row);
  keys : All (IsKey l.merged.program) l.list.items;
}
