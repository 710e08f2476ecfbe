use Rattle.std.proofs.Common.{◌≡◌, ◌+◌, ◌-◌, ◌≤◌}
use Rattle.glk_obj.specs.Blocks.{count, pkg_idx}
use Rattle.glk_obj.specs.Records.{pkg_at}
use Rattle.glk_objdesc.specs.Described.{each_from}
use Rattle.glk_objdesc.proofs.read.pkgs.Given as goal

abbrev pub invariant-loop-k : goal.invariant-loop-k
invariant-loop-k l = record {
  items : l.items.items ≡ each_from (pkg_at l.view) 1 (l.k - 1);
  bound : l.k ≤ 1 + (count l.view pkg_idx - 1);
}
