use Rattle.std.proofs.Common.{List, ℕ, map, ap}
use Rattle.glk_elf.specs.Image.{Row}
use Rattle.glk_elf.specs.Views.{row_view}
use Rattle.glk_elf.proofs.WriterLemmas.{borrowed_more}
use Rattle.glk_elf.proofs.write.borrow_rows.Goals as goal

pub loop-rest-preserved : goal.loop-rest-preserved
loop-rest-preserved c =
    let row = c.row-item.result in
    let named : List ℕ → Row = λ name. record {
      name = name;
      local = row.local;
      kind = row.kind;
      section = row.section;
      value = row.value;
      size = row.size;
    } in
    borrowed_more c.loop-rest.borrowed.items c.push.new.self.items _ c.loop-rest.rest.now row (map row_view c.args.rows.now)
    c.in-len1-up.len_at_least c.row-item.is (ap named c.as_bytes.ensures) c.in_ok-push.ensures.items c.loop-rest.invariant
