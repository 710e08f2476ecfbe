use Rattle.std.proofs.Common.{◌≡◌, ◌-◌}
use Rattle.glk_obj.specs.Blocks.{count, ref_name as ref_name_block}
use Rattle.glk_obj.specs.Records.{ref_name, ref_name_from}
use Rattle.glk_obj.specs.Views.{ref_view}
use Rattle.glk_obj.proofs.offsets.find_name.Given as goal

abbrev pub invariant-loop-k : goal.invariant-loop-k
invariant-loop-k l = ref_name l.bytes (ref_view l.r) ≡ ref_name_from l.bytes (ref_view l.r) l.k (count l.bytes ref_name_block - l.k)
