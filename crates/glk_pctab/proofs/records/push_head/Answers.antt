use Rattle.std.proofs.Common.{◌∙◌, ap, sym, ◌++◌}
use Rattle.glk_pctab.specs.Views.{function_view}
use Rattle.glk_pctab.proofs.RecordSteps.{head_is, on_ok}
use Rattle.glk_pctab.proofs.records.push_head.Goals as goal

pub returns : goal.returns
returns c =
    let h = head_is c.args.first c.args.names.now.elements c.args.tables.now.elements c.args.tree (function_view c.args.function.now)
    c.name_offset-name.result c.table_offset-pcsp.result c.table_offset-pcfile.result c.table_offset-pcline.result c.pcdata_count-pcdata.result c.funcdata_count-funcdata.result
    c.name_offset-name.ensures c.table_offset-pcsp.ensures c.table_offset-pcfile.ensures c.table_offset-pcline.ensures c.pcdata_count-pcdata.ensures (sym (c.funcdata_count-funcdata.ensures c.args.tree)) in
    on_ok c.push_fields.result (λ pushed. pushed ∙ ap (λ s. c.args.out.now.items ++ s) h) c.push_fields.ensures.whole
