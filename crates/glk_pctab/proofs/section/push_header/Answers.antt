use Rattle.std.proofs.Common.{◌∙◌, ap, ◌++◌, length}
use Rattle.glk_pctab.specs.Views.{view}
use Rattle.glk_pctab.proofs.Assembly.{header_is}
use Rattle.glk_pctab.proofs.RecordSteps.{on_ok, functions_counted}
use Rattle.glk_pctab.proofs.section.push_header.Goals as goal

pub returns : goal.returns
returns c =
    let h = header_is (view c.args.t.now) c.args.parts (length c.args.t.now.functions.now) c.args.file_count c.requires.parts (functions_counted c.args.t.now.functions.now) c.requires.files in
    on_ok c.push_fields.result (λ pushed. pushed ∙ ap (λ s. c.args.out.now.items ++ s) h) c.push_fields.ensures.whole
