use Rattle.std.proofs.Common.{rules, ◌≡◌, true, sym, ◌∙◌}
use Rattle.std.proofs.lemmas.Result.{on_ok_weaker}
use Rattle.glk_closure.specs.declared.marks.Marks.{Marks}
use Rattle.glk_closure.specs.Graph.{Graph}
use Rattle.glk_closure.specs.Marks.{called_at, AllReach, ExtendsIf}
use Rattle.glk_closure.proofs.Growth.{ExtendsIf-weaker}
use Rattle.glk_closure.proofs.Rowing.{row_read_called}
use Rattle.glk_closure.proofs.search.keep_if_called.Goals as goal

pub returns-clause-extends : goal.returns-clause-extends
returns-clause-extends g c =
    let w : Graph = g.P.Program.graph c.args.program.now in
    let m : Marks = c.args.marks.now in
    let n : Marks = c.keep_targets.new.marks in
    let t : c.index.result.now.called ≡ true = search rules in
    let called : called_at m.rows.items c.args.row ≡ true = sym (row_read_called m.rows.items c.args.row c.index.result.now c.requires.row c.index.ensures) ∙ t in
    on_ok_weaker {P = ExtendsIf w (AllReach w c.args.targets) m n} {Q = ExtendsIf w (called_at m.rows.items c.args.row ≡ true → AllReach w c.args.targets) m n} c.keep_targets.result (λ x. ExtendsIf-weaker _ x (λ p s. p called)) c.keep_targets.ensures.extends
