use Rattle.glk_cause.proofs.ChainLaws.{exits}
use Rattle.glk_tools.specs.Mkobj.{MkobjAnswer}
use Rattle.glk_tools.proofs.MkobjSteps.{stopped, written}
use Rattle.glk_tools.proofs.cmd_mkobj.make_and_write.Goals as goal

pub returns-in_err-archive : goal.returns-in_err-archive
returns-in_err-archive g c =
    exits (MkobjAnswer (g.F.Files.state c.args.files.now) (g.F.Files.state c.archive_at.new.files) c.args.path.now c.args.out.now) c.from_residual.result
    c.in_err-archive.field-0.0 c.from_residual.ensures.1
    (stopped _ _ c.args.path.now c.args.out.now c.in_err-archive.field-0.0 c.in_err-archive.ensures)

pub returns : goal.returns
returns g c =
    written _ _ _ c.args.path.now c.args.out.now c.in_ok-archive.archive c.deref.result.now c.deref.ensures.value c.in_ok-archive.ensures
    c.write_named.result c.write_named.ensures
