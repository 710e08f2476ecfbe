use Rattle.std.proofs.Common.{sym}
use Rattle.glk_closure.specs.Reach.{I1}
use Rattle.glk_closure.proofs.Steps.{Extends-rule}
use Rattle.glk_closure.proofs.search.mark_if_flagged.Goals as goal

pub returns-in_ok-mark_defined-clause-extends : goal.returns-in_ok-mark_defined-clause-extends
returns-in_ok-mark_defined-clause-extends g c =
    Extends-rule (g.P.Program.graph c.args.program.now) c.in_ok-mark_defined.ensures (λ d. I1 c.args.key c.requires.key (sym c.if-is_flagged.ensures) d)
