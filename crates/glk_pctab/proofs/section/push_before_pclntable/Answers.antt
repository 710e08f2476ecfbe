use Rattle.glk_pctab.specs.Views.{view}
use Rattle.glk_pctab.specs.Building.{entries_view}
use Rattle.glk_pctab.proofs.Assembly.{before_is}
use Rattle.glk_pctab.proofs.RecordSteps.{on_ok}
use Rattle.glk_pctab.proofs.section.push_before_pclntable.Goals as goal

pub returns : goal.returns
returns c =
    on_ok c.write-3.result (λ last. before_is (view c.args.t.now) c.args.name_pool.now c.args.file_pool.now c.args.table_pool.now (entries_view c.args.cutab_entries.now)
    c.args.out.now.items c.push_header.new.out.items c.write.new.out.items c.pad_to_4.new.out.items c.push_cutab.new.out.items c.write-2.new.out.items c.push.new.self.items c.write-3.new.out.items
    c.requires.names c.requires.files c.requires.tables c.requires.entries c.requires.empty c.in_ok-push_header.ensures c.in_ok-write.ensures c.in_ok-pad_to_4.ensures c.in_ok-push_cutab.ensures c.in_ok-write-2.ensures c.in_ok-push.ensures.items last) c.write-3.ensures
