use Rattle.std.proofs.Common.{◌≡◌, ◌≤◌, ◌+◌, length, drop}
use Rattle.std.specs.List.{sum_by}
use Rattle.glk_arena.specs.World.{rules_so_far, file_bytes}
use Rattle.glk_base.specs.Limits.{file_limit}
use Rattle.glk_arena.specs.LoadParts.{inputs_by}
use Rattle.glk_arena.proofs.FormatLemmas.{FormatsOn}
use Rattle.glk_arena.proofs.parse_packages.append_wave.Given as goal

abbrev pub invariant-loop-file : goal.invariant-loop-file
invariant-loop-file l = record {
  all : length l.list + length l.rest.items ≡ length l.names;
  small : file_bytes l.list + sum_by length l.rest.items ≤ file_limit;
  on : FormatsOn (inputs_by l.loader) (rules_so_far l.fn.earlier) (drop (length l.fn.earlier) l.names) l.fn.files.items l.fn.earlier l.list l.names l.rest.items;
}

abbrev pub decreases-loop-file : goal.decreases-loop-file
decreases-loop-file l = length l.rest.items
