use Rattle.std.proofs.Common.{List, map, sym, ap, subst, arith}
use Rattle.glk_elf.specs.Image.{Row}
use Rattle.glk_elf.specs.Placing.{IsPlaced, parts_with}
use Rattle.glk_elf.specs.Frames.{blank_bytes}
use Rattle.glk_elf.specs.Views.{bytes_view, symbol_row}
use Rattle.glk_elf.proofs.PartLemmas.{blank_fill, refilled}
use Rattle.glk_elf.proofs.write.frame_of.Goals as goal

pub returns-clause-placed : goal.returns-clause-placed
returns-clause-placed c =
    let p = c.args.parts.now in
    let Placed : List Row → Type 0 = λ rows. IsPlaced (parts_with p.entry p.sizes p.addrs (bytes_view p.bytes) rows) in
    refilled p.entry p.sizes p.addrs (bytes_view p.bytes) (blank_bytes p.sizes) (map symbol_row c.args.rows.now)
    (blank_fill p.sizes (omega arith)) (subst Placed (sym c.requires.rows) c.requires.placed)

pub returns-clause-parts : goal.returns-clause-parts
returns-clause-parts c =
    let p = c.args.parts.now in
    ap (λ (rows : List Row). parts_with p.entry p.sizes p.addrs (bytes_view p.bytes) rows) c.requires.rows
