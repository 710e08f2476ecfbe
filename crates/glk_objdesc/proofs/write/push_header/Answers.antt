use Rattle.glk_objdesc.proofs.WriteLemmas.{header_is}
use Rattle.glk_objdesc.proofs.write.push_header.Goals as goal

pub returns : goal.returns
returns c =
    header_is c.args.d.now c.args.out.now.items c.extend_from_slice.new.self.items c.extend_from_slice-2.new.self.items c.push_fields.new.out.items c.push_offsets.new.out.items
    c.args.lengths.now c.args.strings c.in_ok-extend_from_slice.ensures.items c.in_ok-extend_from_slice-2.ensures.items c.in_ok-push_fields.ensures.whole
    c.in_ok-push_offsets.ensures
    c.requires.strings c.requires.lengths
