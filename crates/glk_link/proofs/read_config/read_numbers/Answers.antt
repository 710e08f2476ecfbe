use Rattle.std.proofs.Common.{Err}
use Rattle.glk_io.specs.Changes.{FileState}
use Rattle.glk_cause.proofs.ChainLaws.{exits}
use Rattle.glk_obj.specs.Numbers.{IsGood}
use Rattle.glk_obj.specs.declared.numbers.Numbers.{Numbers}
use Rattle.glk_link.specs.Config.{AreNumbers, standard_numbers}
use Rattle.glk_link.proofs.ConfigSteps.{ReadsFile, not_read, parsed, not_given}
use Rattle.glk_link.proofs.NumberTables.{standard_table}
use Rattle.glk_link.proofs.read_config.read_numbers.Goals as goal

pub returns-in-None : goal.returns-in-None
returns-in-None g c =
    let state : FileState = g.F.Files.state c.args.files.now in
    not_given IsGood AreNumbers standard_numbers (λ (t : Numbers). t) state c.args.opts.now.numbers c.standard.result c.in-None.is (standard_table c.standard.result c.standard.ensures.kinds c.standard.ensures.size)

pub returns-in_err-text : goal.returns-in_err-text
returns-in_err-text g c =
    let old : FileState = g.F.Files.state c.args.files.now in
    let new : FileState = g.F.Files.state c.read_named.new.files in
    exits (ReadsFile IsGood AreNumbers standard_numbers (λ (t : Numbers). t) old new c.args.opts.now.numbers)
    c.from_residual.result c.in_err-text.field-0.0 c.from_residual.ensures.1
    (not_read IsGood AreNumbers standard_numbers (λ (t : Numbers). t) old new c.args.opts.now.numbers c.in-Some.path c.as_str.result.now c.in-Some.is c.as_str.ensures c.in_err-text.field-0.0 c.in_err-text.ensures.reads)

pub returns : goal.returns
returns g c =
    let old : FileState = g.F.Files.state c.args.files.now in
    let new : FileState = g.F.Files.state c.read_named.new.files in
    parsed IsGood AreNumbers standard_numbers (λ (t : Numbers). t) old new c.args.opts.now.numbers c.in-Some.path c.as_str.result.now c.as_str-2.result.now c.in-Some.is c.as_str.ensures c.as_str-2.ensures
    c.in_ok-text.text c.as_bytes.result.now c.as_bytes.ensures c.in_ok-text.ensures.reads c.parse_numbers.result c.parse_numbers.ensures
