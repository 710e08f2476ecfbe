use Rattle.std.proofs.Common.{◌∙◌, sym, arith}
use Rattle.glk_elf.specs.Views.{blank_view, number_of}
use Rattle.glk_elf.proofs.PlaceLemmas.{addr_above, ends_limit}
use Rattle.glk_elf.proofs.PartLemmas.{frame_addr, frame_size}
use Rattle.glk_elf.proofs.layout.memory_of.Goals as goal

pub returns-clause-addr : goal.returns-clause-addr
returns-clause-addr c =
    c.place_of.ensures.addr ∙ sym (frame_addr c.args.frame.now (number_of c.args.name) c.place_of.ensures.some c.place_of.ensures.inside)

pub returns-clause-size : goal.returns-clause-size
returns-clause-size c =
    c.place_of.ensures.size ∙ sym (frame_size c.args.frame.now (number_of c.args.name) c.place_of.ensures.some c.place_of.ensures.inside)

pub returns-clause-above : goal.returns-clause-above
returns-clause-above c =
    let same = frame_addr c.args.frame.now (number_of c.args.name) c.place_of.ensures.some c.place_of.ensures.inside in
    let above = addr_above (blank_view c.args.frame.now) c.requires (number_of c.args.name) c.place_of.ensures.some c.place_of.ensures.inside in
    omega (arith, same, above, c.place_of.ensures.addr)

pub returns-clause-limit : goal.returns-clause-limit
returns-clause-limit c addressed =
    let addr = frame_addr c.args.frame.now (number_of c.args.name) c.place_of.ensures.some c.place_of.ensures.inside in
    let size = frame_size c.args.frame.now (number_of c.args.name) c.place_of.ensures.some c.place_of.ensures.inside in
    let limit = ends_limit (blank_view c.args.frame.now) c.requires (number_of c.args.name) c.place_of.ensures.some addressed in
    omega (arith, addr, size, limit, c.place_of.ensures.addr, c.place_of.ensures.size)
