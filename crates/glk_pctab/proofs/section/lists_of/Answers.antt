use Rattle.std.proofs.Common.{arith, ap, ◌∙◌, length}
use Rattle.glk_pctab.specs.Views.{view, texts_of}
use Rattle.glk_pctab.specs.Building.{entries_view}
use Rattle.glk_pctab.proofs.Assembly.{many_entries, many_functions, files_counted, entries_counted, units_all, new_pool}
use Rattle.glk_pctab.proofs.RecordSteps.{functions_counted}
use Rattle.glk_pctab.proofs.section.lists_of.Goals as goal

pub returns-then-entry_count-ge-SECTION_LIMIT-clause-refuses : goal.returns-then-entry_count-ge-SECTION_LIMIT-clause-refuses
returns-then-entry_count-ge-SECTION_LIMIT-clause-refuses c =
    let count = files_counted c.args.t.now c.in_ok-unit_files.unit_files.items c.in_ok-unit_files.ensures in
    many_entries (view c.args.t.now) (omega (arith, c.if-entry_count-ge-SECTION_LIMIT.true, c.len-entry_count.ensures, c.in_ok-unit_files.unit_files.ok.0, count))

pub returns-then-function_count-ge-SECTION_LIMIT-clause-refuses : goal.returns-then-function_count-ge-SECTION_LIMIT-clause-refuses
returns-then-function_count-ge-SECTION_LIMIT-clause-refuses c =
    many_functions (view c.args.t.now) (omega (arith, c.if-function_count-ge-SECTION_LIMIT.true, functions_counted c.args.t.now.functions.now))

pub firsts_of-requires : goal.firsts_of-requires
firsts_of-requires c =
    let count = files_counted c.args.t.now c.in_ok-unit_files.unit_files.items c.in_ok-unit_files.ensures in
    omega (arith, c.if-entry_count-ge-SECTION_LIMIT.false, c.len-entry_count.ensures, c.in_ok-unit_files.unit_files.ok.0, count, entries_counted (view c.args.t.now))

pub entries_of-requires : goal.entries_of-requires
entries_of-requires c = record {
  files = ap texts_of c.deref.ensures.value ∙ c.in_ok-unit_files.ensures;
  small = omega (arith, c.if-entry_count-ge-SECTION_LIMIT.false, c.len-entry_count.ensures, c.in_ok-unit_files.unit_files.ok.0, ap length c.deref.ensures.value);
  firsts = c.deref-2.ensures.value ∙ c.in_ok-firsts.ensures;
  units = units_all c.args.t.now c.requires;
}

pub section_parts-requires : goal.section_parts-requires
section_parts-requires c = record {
  can_write = c.requires;
  few = omega (arith, c.if-function_count-ge-SECTION_LIMIT.false);
  names = c.in_ok-names.ensures;
  files = c.in_ok-files.ensures ∙ new_pool _ _ (ap entries_view c.deref-3.ensures.value ∙ c.in_ok-entries.ensures);
  tables = c.in_ok-tables.ensures;
  entries = omega (arith, c.len-entry_count.ensures, c.in_ok-unit_files.unit_files.ok.0, files_counted c.args.t.now c.in_ok-unit_files.unit_files.items c.in_ok-unit_files.ensures);
}

pub returns-in-Some-clause-lists : goal.returns-in-Some-clause-lists
returns-in-Some-clause-lists c = record {
  firsts_are = c.in_ok-firsts.ensures;
  entries_are = c.in_ok-entries.ensures;
  names_are = c.in_ok-names.ensures;
  files_are = c.in_ok-files.ensures ∙ new_pool _ _ (ap entries_view c.deref-3.ensures.value ∙ c.in_ok-entries.ensures);
  tables_are = c.in_ok-tables.ensures;
  parts_are = c.in-Some.ensures.0;
}
