use Rattle.std.proofs.Common.{List, [], Err}
use Rattle.glk_io.specs.Changes.{FileState}
use Rattle.glk_cause.proofs.ChainLaws.{exits}
use Rattle.glk_arena.specs.Builtins.{Builtin, IsGoodLine, AreListed}
use Rattle.glk_link.proofs.ConfigSteps.{ReadsFile, not_read, parsed, not_given}
use Rattle.glk_link.proofs.read_config.read_builtins.Goals as goal

pub returns-in-None : goal.returns-in-None
returns-in-None g c =
    let state : FileState = g.F.Files.state c.args.files.now in
    not_given IsGoodLine AreListed [] (λ (list : List Builtin). list) state c.args.opts.now.builtin c.none.result c.in-None.is c.none.ensures

pub returns-in_err-text : goal.returns-in_err-text
returns-in_err-text g c =
    let old : FileState = g.F.Files.state c.args.files.now in
    let new : FileState = g.F.Files.state c.read_named.new.files in
    exits (ReadsFile IsGoodLine AreListed [] (λ (list : List Builtin). list) old new c.args.opts.now.builtin)
    c.from_residual.result c.in_err-text.field-0.0 c.from_residual.ensures.1
    (not_read IsGoodLine AreListed [] (λ (list : List Builtin). list) old new c.args.opts.now.builtin c.in-Some.path c.as_str.result.now c.in-Some.is c.as_str.ensures c.in_err-text.field-0.0 c.in_err-text.ensures.reads)

pub returns : goal.returns
returns g c =
    let old : FileState = g.F.Files.state c.args.files.now in
    let new : FileState = g.F.Files.state c.read_named.new.files in
    parsed IsGoodLine AreListed [] (λ (list : List Builtin). list) old new c.args.opts.now.builtin c.in-Some.path c.as_str.result.now c.as_str-2.result.now c.in-Some.is c.as_str.ensures c.as_str-2.ensures
    c.in_ok-text.text c.as_bytes.result.now c.as_bytes.ensures c.in_ok-text.ensures.reads c.parse_builtins.result c.parse_builtins.ensures
