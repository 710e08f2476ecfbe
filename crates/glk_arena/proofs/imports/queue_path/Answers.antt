use Rattle.std.proofs.Common.{◌∙◌, sym}
use Rattle.glk_arena.proofs.ImportLemmas.{uses_known, uses_new}
use Rattle.glk_arena.proofs.imports.queue_path.Goals as goal

pub returns-then-knows : goal.returns-then-knows
returns-then-knows c = uses_known c.args.names.now c.args.path.now (sym c.knows.ensures ∙ c.if-knows.true)

pub returns : goal.returns
returns c = c.in_ok-push.ensures ∙ uses_new c.args.names.now c.args.path.now (sym c.knows.ensures ∙ c.if-knows.false)
