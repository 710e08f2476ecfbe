use Rattle.glk_init.specs.Graph.{InitGraph}
use Rattle.glk_init.proofs.TaskLemmas.{awaited_within, on_ok}
use Rattle.glk_init.proofs.reached.AwaitingProgram.effects.Goals as goal

pub returns-clause-within : goal.returns-clause-within
returns-clause-within g c =
    let w : InitGraph = g.P.InitProgram.graph c.args.self.now.program.now in
    on_ok c.push_targets.result (awaited_within w c.args.key c.in_ok-edges.ensures.within)
