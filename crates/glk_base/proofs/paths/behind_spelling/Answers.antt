use Rattle.std.proofs.Common.{sym}
use Rattle.glk_base.proofs.Escapes.{front_is, front_not}
use Rattle.glk_base.proofs.paths.behind_spelling.Goals as goal

pub returns-then-starts_with : goal.returns-then-starts_with
returns-then-starts_with c = front_is _ _ _ c.spelling-code.ensures.long (rw c.spelling-code.ensures.same at (sym c.if-starts_with.ensures.value))

pub returns-else-starts_with : goal.returns-else-starts_with
returns-else-starts_with c = λ more e. front_not _ _ more (rw c.spelling-code.ensures.same at (sym c.if-starts_with.ensures.value)) e
