use Rattle.glk_pctab.specs.Section.{names, tables}
use Rattle.glk_pctab.specs.Views.{view}
use Rattle.glk_pctab.proofs.Assembly.{can_all, small_all, short_records, pool_mark, pool_short, pool_short_1, short_names, short_files, short_tables, section_is}
use Rattle.glk_pctab.proofs.RecordSteps.{functions_counted}
use Rattle.glk_pctab.proofs.section.write_section.Goals as goal

pub push_before_pclntable-requires-clause-short : goal.push_before_pclntable-requires-clause-short
push_before_pclntable-requires-clause-short c = short_files (view c.args.t.now) c.requires.short

pub push_functab-requires : goal.push_functab-requires
push_functab-requires c = record {
  few = c.requires.few;
  small = small_all c.args.t.now c.requires.can_write;
  short = short_records c.args.t.now c.requires.short;
}

pub push_records-requires : goal.push_records-requires
push_records-requires c =
    let t = view c.args.t.now in
    record {
      name_mark = pool_mark c.args.name_pool.now _ (names t) c.requires.names;
      names_short = pool_short c.args.name_pool.now _ (names t) _ c.requires.names (short_names t c.requires.short);
      mark = pool_mark c.args.table_pool.now _ (tables t) c.requires.tables;
      short = pool_short_1 c.args.table_pool.now _ (tables t) _ c.requires.tables (short_tables t c.requires.short);
      firsts = c.requires.firsts;
      can_write = can_all c.args.t.now c.requires.can_write;
    }

pub returns : goal.returns
returns c =
    section_is (view c.args.t.now) _ c.args.name_pool.now c.args.table_pool.now c.push_before_pclntable.new.out.items c.pad_to_8.new.out.items c.push_functab.new.out.items c.push_records.new.out.items
    (functions_counted c.args.t.now.functions.now) c.requires.names c.requires.tables c.in_ok-push_before_pclntable.ensures c.in_ok-pad_to_8.ensures c.in_ok-push_functab.ensures c.in_ok-push_records.ensures
