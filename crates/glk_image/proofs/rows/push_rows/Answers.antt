use Rattle.std.proofs.Common.{map}
use Rattle.glk_image.proofs.RowLemmas.{push_more, kinds_more}
use Rattle.glk_image.proofs.rows.push_rows.Goals as goal

pub loop-rest-preserved : goal.loop-rest-preserved
loop-rest-preserved c = record {
  rows = push_more c.loop-rest.rows.items c.push_if.new.rows.items c.row_of.result c.loop-rest.rest.now _ c.args.local c.has_row.result _
      c.in-len1-up.len_at_least c.row_of.ensures.row c.has_row.ensures c.in_ok-push_if.ensures c.loop-rest.invariant.rows;
  kinds = kinds_more c.loop-rest.rows.items c.push_if.new.rows.items c.row_of.result c.has_row.result c.in_ok-push_if.ensures
      c.row_of.ensures.kind c.loop-rest.invariant.kinds;
}
