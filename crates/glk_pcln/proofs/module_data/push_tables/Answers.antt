use Rattle.std.proofs.Common.{◌∙◌, ap, ◌++◌, length, arith}
use Rattle.glk_pctab.specs.Views.{view}
use Rattle.glk_pctab.proofs.RecordSteps.{on_ok, functions_counted}
use Rattle.glk_pcln.proofs.Fields.{fields_are, cutab_inside, filetab_inside, pctab_inside, pclntable_inside}
use Rattle.glk_pcln.proofs.module_data.push_tables.Goals as goal

pub overflow_add-cutab : goal.overflow_add-cutab
overflow_add-cutab c = omega (arith, cutab_inside (view c.args.t.now) c.args.parts.now c.requires.parts, c.requires.short, c.requires.small)

pub overflow_add-filetab : goal.overflow_add-filetab
overflow_add-filetab c = omega (arith, filetab_inside (view c.args.t.now) c.args.parts.now c.requires.parts, c.requires.short, c.requires.small)

pub overflow_add-pctab : goal.overflow_add-pctab
overflow_add-pctab c = omega (arith, pctab_inside (view c.args.t.now) c.args.parts.now c.requires.parts, c.requires.short, c.requires.small)

pub overflow_add-pclntable : goal.overflow_add-pclntable
overflow_add-pclntable c = omega (arith, pclntable_inside (view c.args.t.now) c.args.parts.now c.requires.parts, c.requires.short, c.requires.small)

pub overflow_sub-pclntable_bytes : goal.overflow_sub-pclntable_bytes
overflow_sub-pclntable_bytes c = pclntable_inside (view c.args.t.now) c.args.parts.now c.requires.parts

pub returns : goal.returns
returns c =
    let h = fields_are (view c.args.t.now) c.args.parts.now c.args.pclntab (length c.args.t.now.functions.now) c.requires.parts (functions_counted c.args.t.now.functions.now) in
    on_ok c.push_fields.result (λ pushed. pushed ∙ ap (λ s. c.args.out.now.items ++ s) h) c.push_fields.ensures.whole
