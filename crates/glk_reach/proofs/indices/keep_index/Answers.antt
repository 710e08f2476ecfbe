use Rattle.std.proofs.Common.{sym, ◌∙◌}
use Rattle.glk_reach.specs.Chosen.{relocations_of}
use Rattle.glk_reach.proofs.IndexLaws.{rises, one_rising, one_more}
use Rattle.glk_reach.proofs.indices.keep_index.Goals as goal

pub returns-then-keeps_nothing : goal.returns-then-keeps_nothing
returns-then-keeps_nothing c =
    let p = c.args.merged.now.program in
    one_rising p c.args.key c.args.indices.now c.requires.earlier
    (rises (relocations_of p c.args.key) c.in_ok-index.index (sym c.keeps_nothing.ensures ∙ c.if-keeps_nothing.true) c.in_ok-index.ensures)

pub returns : goal.returns
returns c =
    one_more c.args.merged.now.program c.args.key c.args.indices.now c.insert.new.self c.in_ok-index.index c.requires.earlier c.in_ok-index.ensures c.in_ok-insert.ensures.updates.0
