use Rattle.std.proofs.Common.{rules, ◌≡◌, Some}
use Rattle.glk_closure.specs.Graph.{Graph}
use Rattle.glk_closure.proofs.Growth.{ExtendsIf-adds}
use Rattle.glk_closure.proofs.search.keep_target.Goals as goal

pub returns-in_ok-keep_defined-clause-extends : goal.returns-in_ok-keep_defined-clause-extends
returns-in_ok-keep_defined-clause-extends g c =
    let w : Graph = g.P.Program.graph c.args.program.now in
    let e : c.args.target ≡ Some c.in-Some.key = search rules in
    ExtendsIf-adds w _ c.in_ok-keep_defined.ensures (λ p d. p c.in-Some.key e d)
