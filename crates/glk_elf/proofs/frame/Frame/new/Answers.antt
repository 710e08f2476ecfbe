use Rattle.std.proofs.Common.{◌≡◌, ◌<◌, List, map, ap, arith, get_or}
use Rattle.std.proofs.lemmas.List.{length-map}
use Rattle.std.proofs.lemmas.List.Elements.{All-map}
use Rattle.glk_elf.specs.Sections.{tbss}
use Rattle.glk_elf.specs.Image.{Row, section}
use Rattle.glk_elf.specs.Placing.{parts_with}
use Rattle.glk_elf.specs.Frames.{blank_bytes}
use Rattle.glk_elf.specs.ReaderLaw.{FitsSymbolFields}
use Rattle.glk_elf.specs.Views.{symbol_row}
use Rattle.glk_elf.proofs.FillLemmas.{made_placed, section_is}
use Rattle.glk_elf.proofs.PartLemmas.{blank_fill}
use Rattle.glk_elf.proofs.frame.Frame.new.Goals as goal

pub returns-clause-placed : goal.returns-clause-placed
returns-clause-placed c =
    made_placed c.args.entry c.args.sizes.now c.args.addrs.now (blank_bytes c.args.sizes.now) (map symbol_row c.args.rows.now)
    c.told-sizes c.requires.places c.requires.limit (blank_fill c.args.sizes.now c.told-sizes)
    (All-map (λ row. row.kind < 16) symbol_row c.args.rows.now c.requires.kinds)
    (omega (arith, length-map c.args.rows.now symbol_row, c.requires.few)) c.requires.names

pub returns-clause-fields : goal.returns-clause-fields
returns-clause-fields c =
    let rows : List Row = map symbol_row c.args.rows.now in
    let sizes : List _ = c.args.sizes.now in
    let storage : (section (parts_with c.args.entry sizes c.args.addrs.now (blank_bytes sizes) rows) tbss).size ≡ get_or sizes 10 0 =
    ap (λ s. s.size) (section_is c.args.entry sizes c.args.addrs.now (blank_bytes sizes) rows tbss (omega arith) (omega arith)) in
    record {
      thread_storage = omega (arith, storage, c.fits-sizes 10);
      rows = All-map FitsSymbolFields symbol_row c.args.rows.now c.rows_fit.ensures;
    }
