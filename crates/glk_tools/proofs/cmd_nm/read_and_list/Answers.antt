use Rattle.glk_cause.proofs.ChainLaws.{exits}
use Rattle.glk_tools.specs.Nm.{NmAnswer}
use Rattle.glk_tools.proofs.NmSteps.{not_read, listed_of}
use Rattle.glk_tools.proofs.cmd_nm.read_and_list.Goals as goal

pub returns-in_err-file : goal.returns-in_err-file
returns-in_err-file g c =
    let sink = g.O.Sink.state c.args.out.now in
    exits (NmAnswer (g.F.Files.state c.args.files.now) (g.F.Files.state c.read_named.new.files) sink sink c.args.opts.now c.args.path.now) c.from_residual.result
    c.in_err-file.field-0.0 c.from_residual.ensures.1
    (not_read _ _ sink c.args.opts.now c.args.path.now c.in_err-file.field-0.0 c.in_err-file.ensures.reads)

pub returns : goal.returns
returns g c =
    listed_of _ _ _ _ c.args.opts.now c.args.path.now c.in_ok-file.file c.as_bytes.result.now c.as_bytes.ensures c.in_ok-file.ensures.reads
    c.list_symbols.result c.list_symbols.ensures
