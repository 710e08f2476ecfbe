use Rattle.std.proofs.Common.{List, map, arith}
use Rattle.std.proofs.lemmas.List.{length-map}
use Rattle.glk_elf.specs.Image.{Row}
use Rattle.glk_image.specs.Rows.{row_of}
use Rattle.glk_image.proofs.RowLemmas.{both_parts, count_table, names_table}
use Rattle.glk_image.proofs.rows.symbol_rows.Goals as goal

pub returns-clause-count : goal.returns-clause-count
returns-clause-count c =
    let rs : List Row = map row_of c.args.symbols.now in
    let is = both_parts c.in_ok-rows.rows.items c.push_rows.new.rows.items c.push_rows-2.new.rows.items rs c.in_ok-rows.ensures.items
    c.in_ok-push_rows.ensures.rows c.in_ok-push_rows-2.ensures.rows in
    let few = count_table c.push_rows-2.new.rows.items rs is in
    omega (arith, few, length-map c.args.symbols.now row_of)

pub returns-clause-names : goal.returns-clause-names
returns-clause-names c =
    let rs : List Row = map row_of c.args.symbols.now in
    names_table c.push_rows-2.new.rows.items rs
    (both_parts c.in_ok-rows.rows.items c.push_rows.new.rows.items c.push_rows-2.new.rows.items rs c.in_ok-rows.ensures.items
    c.in_ok-push_rows.ensures.rows c.in_ok-push_rows-2.ensures.rows)
