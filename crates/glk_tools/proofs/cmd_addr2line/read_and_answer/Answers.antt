use Rattle.glk_cause.proofs.ChainLaws.{exits}
use Rattle.glk_tools.specs.Addr2line.{Addr2lineAnswer}
use Rattle.glk_tools.proofs.Addr2lineSteps.{not_read, no_input, answered_of}
use Rattle.glk_tools.proofs.cmd_addr2line.read_and_answer.Goals as goal

pub returns-in_err-file : goal.returns-in_err-file
returns-in_err-file g c =
    let from = g.I.Source.state c.args.input.now in
    let sink = g.O.Sink.state c.args.out.now in
    exits (Addr2lineAnswer (g.F.Files.state c.args.files.now) (g.F.Files.state c.read_named.new.files) from from sink sink c.args.inline c.args.path.now) c.from_residual.result
    c.in_err-file.field-0.0 c.from_residual.ensures.1
    (not_read _ _ from sink c.args.inline c.args.path.now c.in_err-file.field-0.0 c.in_err-file.ensures.reads)

pub returns-in_err-addresses : goal.returns-in_err-addresses
returns-in_err-addresses g c =
    let sink = g.O.Sink.state c.args.out.now in
    exits (Addr2lineAnswer (g.F.Files.state c.args.files.now) (g.F.Files.state c.read_named.new.files) (g.I.Source.state c.args.input.now) (g.I.Source.state c.read_input.new.input) sink sink c.args.inline c.args.path.now)
    c.from_residual-in_err-addresses.result c.in_err-addresses.field-0.0 c.from_residual-in_err-addresses.ensures.1
    (no_input _ _ _ _ c.args.inline c.args.path.now c.in_ok-file.file c.in_ok-file.ensures.reads sink c.in_err-addresses.field-0.0 c.in_err-addresses.ensures)

pub returns : goal.returns
returns g c =
    answered_of _ _ _ _ _ _ c.args.inline c.args.path.now c.in_ok-file.file c.in_ok-addresses.addresses _ _ c.as_bytes.ensures c.as_bytes-2.ensures
    c.in_ok-file.ensures.reads c.in_ok-addresses.ensures c.answer_addresses.result c.answer_addresses.ensures
