use Rattle.std.proofs.Common.{List, Err}
use Rattle.glk_arena.specs.ConfigViews.{file_in}
use Rattle.glk_io.specs.Changes.{FileState}
use Rattle.glk_cause.proofs.ChainLaws.{exits}
use Rattle.glk_link.specs.Answers.{ToldAnswer}
use Rattle.glk_link.proofs.ToldSteps.{no_numbers, no_builtins, no_files, all_told}
use Rattle.glk_link.proofs.config_files.read_config_files.Goals as goal

pub returns-in_err-numbers-clause-tells : goal.returns-in_err-numbers-clause-tells
returns-in_err-numbers-clause-tells g c =
    let e = c.in_err-numbers.field-0.0 in
    let old : FileState = g.F.Files.state c.args.files.now in
    let mid : FileState = g.F.Files.state c.read_numbers.new.files in
    exits (ToldAnswer old mid c.args.opts.now) c.from_residual.result e c.from_residual.ensures.1
    (no_numbers old mid c.args.opts.now e c.in_err-numbers.ensures)

pub returns-in_err-builtins-clause-tells : goal.returns-in_err-builtins-clause-tells
returns-in_err-builtins-clause-tells g c =
    let e = c.in_err-builtins.field-0.0 in
    let old : FileState = g.F.Files.state c.args.files.now in
    let mid : FileState = g.F.Files.state c.read_numbers.new.files in
    let late : FileState = g.F.Files.state c.read_builtins.new.files in
    exits (ToldAnswer old late c.args.opts.now) c.from_residual-in_err-builtins.result e c.from_residual-in_err-builtins.ensures.1
    (no_builtins c.args.opts.now old mid c.in_ok-numbers.numbers c.in_ok-numbers.ensures late e c.in_err-builtins.ensures)

pub returns-in_err-config-clause-tells : goal.returns-in_err-config-clause-tells
returns-in_err-config-clause-tells g c =
    let e = c.in_err-config.field-0.0 in
    let old : FileState = g.F.Files.state c.args.files.now in
    let mid : FileState = g.F.Files.state c.read_numbers.new.files in
    let late : FileState = g.F.Files.state c.read_builtins.new.files in
    let new : FileState = g.F.Files.state c.read_config.new.files in
    exits (ToldAnswer old new c.args.opts.now) c.from_residual-in_err-config.result e c.from_residual-in_err-config.ensures.1
    (no_files c.args.opts.now old mid c.in_ok-numbers.numbers c.in_ok-numbers.ensures late c.in_ok-builtins.builtins c.in_ok-builtins.ensures new e c.in_err-config.ensures.reads)

pub returns-clause-tells : goal.returns-clause-tells
returns-clause-tells g c =
    let old : FileState = g.F.Files.state c.args.files.now in
    let mid : FileState = g.F.Files.state c.read_numbers.new.files in
    let late : FileState = g.F.Files.state c.read_builtins.new.files in
    let new : FileState = g.F.Files.state c.read_config.new.files in
    all_told c.args.opts.now old mid c.in_ok-numbers.numbers c.in_ok-numbers.ensures late c.in_ok-builtins.builtins c.in_ok-builtins.ensures new (file_in c.in_ok-config.config) c.in_ok-config.ensures.reads
