use Rattle.std.proofs.Common.{◌≡◌}
use Rattle.std.specs.List.{All}
use Rattle.glk_init.specs.Graph.{IsWithin}
use Rattle.glk_keys.specs.Rows.{row_count}
use Rattle.glk_tasks.specs.Tasks.{edges_below}
use Rattle.glk_tasks.proofs.program.fill_edges.Given as goal

abbrev pub invariant-loop-i : goal.invariant-loop-i
invariant-loop-i l = record {
  edges : l.out.items ≡ edges_below l.merged.program l.id.0 l.i;
  within : All (IsWithin (row_count l.merged.program)) l.out.items;
}
