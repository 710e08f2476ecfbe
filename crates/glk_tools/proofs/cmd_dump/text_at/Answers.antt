use Rattle.glk_cause.proofs.ChainLaws.{exits}
use Rattle.glk_tools.specs.Dump.{PackageAnswer}
use Rattle.glk_tools.proofs.DumpSteps.{not_read, made}
use Rattle.glk_tools.proofs.cmd_dump.text_at.Goals as goal

pub returns-in_err-file : goal.returns-in_err-file
returns-in_err-file g c =
    exits (PackageAnswer (g.F.Files.state c.args.files.now) (g.F.Files.state c.read_named.new.files) c.args.path.now) c.from_residual.result
    c.in_err-file.field-0.0 c.from_residual.ensures.1
    (not_read _ _ c.args.path.now c.in_err-file.field-0.0 c.in_err-file.ensures.reads)

pub returns : goal.returns
returns g c =
    made _ _ c.args.path.now c.in_ok-file.file c.as_bytes.result.now c.as_bytes.ensures c.in_ok-file.ensures.reads c.text_of.result c.text_of.ensures
