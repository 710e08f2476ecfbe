use Rattle.std.proofs.Common.{◌∙◌, sym, arith}
use Rattle.glk_obj.specs.Blocks.{count, ref_name as ref_name_block}
use Rattle.glk_obj.specs.Views.{ref_view}
use Rattle.glk_obj.proofs.Laws.{ref_name_here, ref_name_next}
use Rattle.glk_obj.proofs.offsets.find_name.Goals as goal

pub returns-then-is_name_of : goal.returns-then-is_name_of
returns-then-is_name_of c =
    let same = rw c.ref_name_offset-at.ensures.value at (sym c.is_name_of.ensures ∙ c.if-is_name_of.true) in
    rw (c.text.ensures, c.ref_name_offset-at.ensures.value)
    (sym (c.loop-k.invariant ∙ ref_name_here c.args.bytes.now (ref_view c.args.r) c.loop-k.k (count c.args.bytes.now ref_name_block) (omega arith) same))

pub loop-k-preserved : goal.loop-k-preserved
loop-k-preserved c =
    let other = rw c.ref_name_offset-at.ensures.value at (sym c.is_name_of.ensures ∙ c.if-is_name_of.false) in
    c.loop-k.invariant ∙ ref_name_next c.args.bytes.now (ref_view c.args.r) c.loop-k.k (count c.args.bytes.now ref_name_block) (omega arith) other
