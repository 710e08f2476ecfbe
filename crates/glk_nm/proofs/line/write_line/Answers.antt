use Rattle.std.proofs.Common.{rules}
use Rattle.glk_elf.specs.ReaderViews.{symbol_record}
use Rattle.glk_nm.specs.Lines.{address_field, size_field, words_of, line_of}
use Rattle.glk_nm.specs.Letters.{letter_of}
use Rattle.glk_pending.proofs.WritingLemmas.{first_fails, second_fails, third_writes, fails_after}
use Rattle.glk_nm.proofs.line.write_line.Goals as goal

pub returns-in_err-write_address : goal.returns-in_err-write_address
unfolding line_of
returns-in_err-write_address g c =
    let symbol = symbol_record c.args.symbol.now in
    let words = words_of (letter_of c.args.view.now symbol) symbol.name in
    fails_after _ _ c.args.pending.now c.write_address.new.pending (line_of c.args.view.now c.args.with_size symbol) c.from_residual.result _ c.from_residual.ensures.1
    (first_fails _ c.args.pending.now (address_field symbol) (size_field c.args.with_size symbol) words _ c.in_err-write_address.ensures)

pub returns-in_err-write_size : goal.returns-in_err-write_size
unfolding line_of
returns-in_err-write_size g c =
    let symbol = symbol_record c.args.symbol.now in
    let words = words_of (letter_of c.args.view.now symbol) symbol.name in
    fails_after _ _ c.args.pending.now c.write_size.new.pending (line_of c.args.view.now c.args.with_size symbol)
    c.from_residual-in_err-write_size.result _ c.from_residual-in_err-write_size.ensures.1
    (second_fails _ c.args.pending.now (address_field symbol) (size_field c.args.with_size symbol) words _ _ c.write_address.new.pending
    c.in_ok-write_address.ensures c.in_err-write_size.ensures)

pub returns : goal.returns
unfolding line_of
returns g c =
    let symbol = symbol_record c.args.symbol.now in
    third_writes _ c.args.pending.now (address_field symbol) (size_field c.args.with_size symbol)
    (words_of (letter_of c.args.view.now symbol) symbol.name) _ _ _ c.write_address.new.pending c.write_size.new.pending
    c.write_words.new.pending c.write_words.result c.in_ok-write_address.ensures c.in_ok-write_size.ensures
    (search (rules, c.write_words.ensures, c.letter_of.ensures))
