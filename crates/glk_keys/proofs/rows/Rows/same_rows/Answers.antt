use Rattle.glk_keys.proofs.KeyNames.{named_as}
use Rattle.glk_keys.specs.Rows.{row_at}
use Rattle.glk_keys.proofs.rows.Rows.same_rows.Goals as goal

pub same_name-requires-clause-first : goal.same_name-requires-clause-first
same_name-requires-clause-first c =
    let row = row_at c.args.self.now c.args.a in
    named_as row.origin row.object row.local row.symbol c.in-Named-Named.x.now c.in-Named-Named.m c.in-Named-Named.ensures

pub same_name-requires-clause-second : goal.same_name-requires-clause-second
same_name-requires-clause-second c =
    let row = row_at c.args.self.now c.args.b in
    named_as row.origin row.object row.local row.symbol c.in-Named-Named.y.now c.in-Named-Named.n c.in-Named-Named.ensures'
