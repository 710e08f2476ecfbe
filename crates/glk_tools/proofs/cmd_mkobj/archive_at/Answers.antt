use Rattle.glk_cause.proofs.ChainLaws.{exits}
use Rattle.glk_tools.specs.Mkobj.{TextAnswer}
use Rattle.glk_tools.proofs.MkobjSteps.{not_read, made}
use Rattle.glk_tools.proofs.cmd_mkobj.archive_at.Goals as goal

pub returns-in_err-text : goal.returns-in_err-text
returns-in_err-text g c =
    exits (TextAnswer (g.F.Files.state c.args.files.now) (g.F.Files.state c.read_named.new.files) c.args.path.now) c.from_residual.result
    c.in_err-text.field-0.0 c.from_residual.ensures.1
    (not_read _ _ c.args.path.now c.in_err-text.field-0.0 c.in_err-text.ensures.reads)

pub returns : goal.returns
returns g c =
    made _ _ c.args.path.now c.in_ok-text.text c.as_bytes.result.now c.as_bytes.ensures c.in_ok-text.ensures.reads c.archive_of.result c.archive_of.ensures
