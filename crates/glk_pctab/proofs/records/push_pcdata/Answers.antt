use Rattle.std.proofs.Common.{arith, [], map, ◌∙◌, ap, sym}
use Rattle.std.proofs.lemmas.List.{length-map}
use Rattle.glk_pctab.specs.Functions.{pcdata_of}
use Rattle.glk_pctab.specs.Section.{table_offset}
use Rattle.glk_pctab.specs.Views.{function_view}
use Rattle.glk_pctab.proofs.ListLemmas.{map_get}
use Rattle.glk_pctab.proofs.RecordSteps.{u32_next, u32_last}
use Rattle.glk_pctab.proofs.records.push_pcdata.Goals as goal

pub loop-k-preserved : goal.loop-k-preserved
loop-k-preserved c =
    let ts = c.args.tables.now.elements in
    let ds = pcdata_of (function_view c.args.function.now) in
    u32_next c.loop-k.out.items c.push_fields.new.out.items (map (table_offset ts) ds) c.loop-k.k c.table_offset-offset.result _ (omega (arith, length-map ds (table_offset ts), c.pcdata_count-k-end.ensures))
    (c.table_offset-offset.ensures ∙ ap (table_offset ts) c.pcdata_at.ensures ∙ sym (map_get (table_offset ts) ds c.loop-k.k [] 0 (omega (arith, c.pcdata_count-k-end.ensures))))
    c.in_ok-push_fields.ensures.whole c.loop-k.invariant

pub returns : goal.returns
returns c =
    let ts = c.args.tables.now.elements in
    let ds = pcdata_of (function_view c.args.function.now) in
    u32_last c.loop-k.out.items (map (table_offset ts) ds) c.loop-k.k _ (omega (arith, length-map ds (table_offset ts), c.pcdata_count-k-end.ensures)) c.loop-k.invariant
