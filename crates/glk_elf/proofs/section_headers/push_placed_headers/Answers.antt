use Rattle.std.proofs.Common.{length, ap, ◌∙◌}
use Rattle.glk_elf.specs.Views.{blank_view}
use Rattle.glk_elf.proofs.WriterLemmas.{names_more, header_more}
use Rattle.glk_elf.proofs.section_headers.push_placed_headers.Goals as goal

pub loop-rest-preserved : goal.loop-rest-preserved
loop-rest-preserved c = record {
  names = names_more c.loop-rest.rest.now _ c.loop-rest.at (length c.name.result.now) c.in-len1-up.len_at_least (ap length c.name.ensures)
      ∙ c.loop-rest.invariant.names;
  headers = header_more (blank_view c.args.frame.now) c.loop-rest.rest.now _ c.loop-rest.at (length c.name.result.now)
      c.loop-rest.out.items c.push_placed_header.new.out.items c.in-len1-up.len_at_least (ap length c.name.ensures)
      c.in_ok-push_placed_header.ensures
      ∙ c.loop-rest.invariant.headers;
}
