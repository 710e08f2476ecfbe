use Rattle.std.proofs.Common.{◌≡◌, arith, ap, ◌∙◌, length, []}
use Rattle.glk_pctab.specs.Building.{entries_view}
use Rattle.glk_pctab.specs.Section.{zero_byte, names, files, tables, entries}
use Rattle.glk_pctab.specs.Views.{view, texts_of}
use Rattle.glk_pctab.proofs.Assembly.{files_counted, entries_counted, new_pool, pool_size, end_is}
use Rattle.glk_pctab.proofs.MeasureLemmas.{few_small, few_units, size_is}
use Rattle.glk_pctab.proofs.measure.section_size.Goals as goal

pub firsts_of-requires : goal.firsts_of-requires
firsts_of-requires c =
    let count = files_counted c.args.t.now c.in_ok-unit_files.unit_files.items c.in_ok-unit_files.ensures in
    omega (arith, c.if-entry_count-ge-SECTION_LIMIT.false, c.len-entry_count.ensures, c.in_ok-unit_files.unit_files.ok.0, count, entries_counted (view c.args.t.now))

pub entries_of-requires : goal.entries_of-requires
entries_of-requires c = record {
  files = ap texts_of c.deref.ensures.value ∙ c.in_ok-unit_files.ensures;
  small = omega (arith, c.if-entry_count-ge-SECTION_LIMIT.false, c.len-entry_count.ensures, c.in_ok-unit_files.unit_files.ok.0, ap length c.deref.ensures.value);
  firsts = c.deref-2.ensures.value ∙ c.in_ok-firsts.ensures;
  units = few_units c.args.t.now c.requires;
}

pub records_size-records-requires : goal.records_size-records-requires
records_size-records-requires c = record {
  few = omega (arith, c.if-function_count-ge-SECTION_LIMIT.false);
  small = few_small c.args.t.now c.requires;
}

pub returns : goal.returns
returns c =
    let t = view c.args.t.now in
    let n = pool_size c.in_ok-names.names zero_byte (names t) c.size.result c.in_ok-names.ensures c.size.ensures in
    let f = pool_size c.in_ok-files.files zero_byte (files t) c.size-2.result (c.in_ok-files.ensures ∙ new_pool _ _ (ap entries_view c.deref-3.ensures.value ∙ c.in_ok-entries.ensures)) c.size-2.ensures in
    let k = pool_size c.in_ok-tables.tables [] (tables t) c.size-3.result c.in_ok-tables.ensures c.size-3.ensures in
    let e : c.len-entry_count.result ≡ length (entries t) = omega (arith, c.len-entry_count.ensures, c.in_ok-unit_files.unit_files.ok.0, files_counted c.args.t.now c.in_ok-unit_files.unit_files.items c.in_ok-unit_files.ensures) in
    size_is t c.size.result c.len-entry_count.result c.size-2.result c.size-3.result c.records_size-records.result c.size_of.result n e f k
    (c.records_size-records.ensures.value ∙ end_is c.args.t.now) c.size_of.ensures
