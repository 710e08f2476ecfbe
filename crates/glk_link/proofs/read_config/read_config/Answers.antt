use Rattle.std.proofs.Common.{List, None, Err}
use Rattle.glk_io.specs.Changes.{FileState}
use Rattle.glk_cause.proofs.ChainLaws.{exits}
use Rattle.glk_arena.specs.Config.{IsGoodLine}
use Rattle.glk_arena.specs.ConfigViews.{file_in}
use Rattle.glk_link.specs.Config.{AreFiles}
use Rattle.glk_link.proofs.ConfigSteps.{ReadsFile, not_read, parsed, not_given}
use Rattle.std.proofs.Math.Path.{fun_ext}
use Rattle.glk_link.proofs.read_config.read_config.Goals as goal

pub returns-in-None-clause-reads : goal.returns-in-None-clause-reads
returns-in-None-clause-reads g c =
    let state : FileState = g.F.Files.state c.args.files.now in
    not_given IsGoodLine AreFiles (λ named. None) file_in state c.args.opts.now.importcfg c.new.result c.in-None.is (fun_ext (λ named. c.new.ensures named))

pub returns-in_err-text-clause-reads : goal.returns-in_err-text-clause-reads
returns-in_err-text-clause-reads g c =
    let old : FileState = g.F.Files.state c.args.files.now in
    let new : FileState = g.F.Files.state c.read_named.new.files in
    exits (ReadsFile IsGoodLine AreFiles (λ named. None) file_in old new c.args.opts.now.importcfg)
    c.from_residual.result c.in_err-text.field-0.0 c.from_residual.ensures.1
    (not_read IsGoodLine AreFiles (λ named. None) file_in old new c.args.opts.now.importcfg c.in-Some.path c.as_str.result.now c.in-Some.is c.as_str.ensures c.in_err-text.field-0.0 c.in_err-text.ensures.reads)

pub returns-clause-reads : goal.returns-clause-reads
returns-clause-reads g c =
    let old : FileState = g.F.Files.state c.args.files.now in
    let new : FileState = g.F.Files.state c.read_named.new.files in
    parsed IsGoodLine AreFiles (λ named. None) file_in old new c.args.opts.now.importcfg c.in-Some.path c.as_str.result.now c.as_str-2.result.now c.in-Some.is c.as_str.ensures c.as_str-2.ensures
    c.in_ok-text.text c.as_bytes.result.now c.as_bytes.ensures c.in_ok-text.ensures.reads c.parse_config.result c.parse_config.ensures
