use Rattle.std.proofs.Common.{◌∙◌, true, false, ap, sym}
use Rattle.std.specs.Option.{is_none}
use Rattle.glk_arena.specs.ConfigViews.{file_in}
use Rattle.glk_arena.specs.ImportRefs.{import_view}
use Rattle.glk_arena.proofs.ImportLemmas.{missing_is}
use Rattle.glk_arena.proofs.imports.is_unresolved.Goals as goal

pub returns-then-knows : goal.returns-then-knows
returns-then-knows c = sym (missing_is (file_in c.args.config.now) c.args.names.now (import_view c.args.import) true (sym c.knows.ensures ∙ c.if-knows.true))

pub returns-in-Some : goal.returns-in-Some
returns-in-Some c =
    sym (missing_is (file_in c.args.config.now) c.args.names.now (import_view c.args.import) false (sym c.knows.ensures ∙ c.if-knows.false) ∙ ap is_none c.in-Some.ensures)

pub returns-in-None : goal.returns-in-None
returns-in-None c =
    sym (missing_is (file_in c.args.config.now) c.args.names.now (import_view c.args.import) false (sym c.knows.ensures ∙ c.if-knows.false) ∙ ap is_none c.in-None.ensures)
