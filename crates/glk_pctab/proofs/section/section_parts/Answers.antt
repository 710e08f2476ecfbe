use Rattle.std.proofs.Common.{arith, ◌∙◌, []}
use Rattle.glk_pctab.specs.Section.{zero_byte, names, files, tables}
use Rattle.glk_pctab.specs.Views.{view}
use Rattle.glk_pctab.proofs.Assembly.{small_all, end_is, pool_size, too_long, parts_are, long_records, match_parts}
use Rattle.glk_pctab.proofs.section.section_parts.Goals as goal

pub records_end-requires : goal.records_end-requires
records_end-requires c = record { few = c.requires.few; small = small_all c.args.t.now c.requires.can_write }

pub returns-in-None : goal.returns-in-None
returns-in-None c = long_records (view c.args.t.now) (omega (arith, c.in-None.ensures, end_is c.args.t.now))

pub returns-in-Some : goal.returns-in-Some
returns-in-Some c =
    let t = view c.args.t.now in
    let n = pool_size c.args.name_pool.now zero_byte (names t) c.size-names.result c.requires.names c.size-names.ensures in
    let f = pool_size c.args.file_pool.now zero_byte (files t) c.size-files.result c.requires.files c.size-files.ensures in
    let k = pool_size c.args.table_pool.now [] (tables t) c.size-tables.result c.requires.tables c.size-tables.ensures in
    let r = c.in-Some.ensures.0 ∙ end_is c.args.t.now in
    match_parts c.parts_of.result
    (λ long. too_long t c.size-names.result c.args.entry_count c.size-files.result c.size-tables.result c.in-Some.end n c.requires.entries f k r long)
    (λ p is. parts_are t p c.size-names.result c.args.entry_count c.size-files.result c.size-tables.result c.in-Some.end n c.requires.entries f k r is.0 is.1 is.2 is.3 is.4 is.5)
    c.parts_of.ensures
