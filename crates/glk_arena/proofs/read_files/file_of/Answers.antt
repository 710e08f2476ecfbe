use Rattle.std.proofs.Common.{◌∙◌, sym}
use Rattle.glk_arena.specs.LoadParts.{inputs_by}
use Rattle.glk_arena.proofs.ReadLemmas.{main_lies, other_lies}
use Rattle.glk_arena.proofs.read_files.file_of.Goals as goal

pub returns-then-eq : goal.returns-then-eq
returns-then-eq c = sym (main_lies (inputs_by c.args.loader) c.args.path.now (sym c.eq.ensures ∙ c.if-eq.true))

pub returns-in-Some : goal.returns-in-Some
returns-in-Some c = sym (other_lies (inputs_by c.args.loader) c.args.path.now _ (sym c.eq.ensures ∙ c.if-eq.false) c.in-Some.ensures)

pub returns-in-None : goal.returns-in-None
returns-in-None c = sym (other_lies (inputs_by c.args.loader) c.args.path.now _ (sym c.eq.ensures ∙ c.if-eq.false) c.in-None.ensures)
