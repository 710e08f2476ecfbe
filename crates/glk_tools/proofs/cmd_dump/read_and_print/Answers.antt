use Rattle.glk_cause.proofs.ChainLaws.{exits}
use Rattle.glk_tools.specs.Dump.{DumpAnswer}
use Rattle.glk_tools.proofs.DumpSteps.{stopped, printed}
use Rattle.glk_tools.proofs.cmd_dump.read_and_print.Goals as goal

pub returns-in_err-text : goal.returns-in_err-text
returns-in_err-text g c =
    let sink = g.O.Sink.state c.args.out.now in
    exits (DumpAnswer (g.F.Files.state c.args.files.now) (g.F.Files.state c.text_at.new.files) sink sink c.args.path.now) c.from_residual.result
    c.in_err-text.field-0.0 c.from_residual.ensures.1
    (stopped _ _ sink c.args.path.now c.in_err-text.field-0.0 c.in_err-text.ensures)

pub returns : goal.returns
returns g c =
    printed _ _ _ _ c.args.path.now c.in_ok-text.text c.deref.result.now c.deref.ensures.value c.in_ok-text.ensures c.print.result c.print.ensures
