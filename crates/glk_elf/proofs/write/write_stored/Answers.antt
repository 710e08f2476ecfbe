use Rattle.glk_elf.specs.Views.{bytes_view, frame_view}
use Rattle.glk_elf.proofs.WriterLemmas.{stored_written}
use Rattle.glk_elf.proofs.write.write_stored.Goals as goal

pub returns : goal.returns
returns c =
    stored_written (frame_view c.args.frame.now) (bytes_view c.args.bytes.now) c.offsets_of-at.result.section_headers c.offsets_of-at.result.symbols
    c.in_ok-out.out.items c.push_elf_header.new.out.items c.push_program_headers.new.out.items c.push_sections.new.out.items
    c.pad_to.new.out.items c.push_tables.new.out.items c.pad_to-2.new.out.items c.push_section_headers.new.out.items
    c.offsets_of-at.ensures.section_headers c.offsets_of-at.ensures.symbols c.in_ok-out.ensures.items
    c.in_ok-push_elf_header.ensures c.in_ok-push_program_headers.ensures c.in_ok-push_sections.ensures c.in_ok-pad_to.ensures
    c.in_ok-push_tables.ensures c.in_ok-pad_to-2.ensures c.in_ok-push_section_headers.ensures
