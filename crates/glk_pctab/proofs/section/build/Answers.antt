use Rattle.std.proofs.Common.{arith}
use Rattle.glk_pctab.specs.Views.{view}
use Rattle.glk_pctab.proofs.Assembly.{short_names}
use Rattle.glk_pctab.proofs.RecordSteps.{functions_counted}
use Rattle.glk_pctab.proofs.SectionLemmas.{functab_before, pclntable_end}
use Rattle.glk_pctab.proofs.section.build.Goals as goal

pub write_trees-requires : goal.write_trees-requires
write_trees-requires c = record { names = c.in_ok-lists.ensures.lists.names_are; short = short_names (view c.args.t.now) c.in_ok-lists.ensures.short }

pub write_section-requires-clause-few : goal.write_section-requires-clause-few
write_section-requires-clause-few c =
    let t = view c.args.t.now in
    omega (arith, functions_counted c.args.t.now.functions.now, functab_before t, pclntable_end t, c.in_ok-lists.ensures.short)
