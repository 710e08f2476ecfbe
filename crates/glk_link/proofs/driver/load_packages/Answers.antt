use Rattle.std.proofs.Common.{List, ℕ, Ok, Err, subst}
use Rattle.std.specs.Prelude.{Result}
use Rattle.glk_base.specs.declared.fault.Fault.{Fault}
use Rattle.glk_io.specs.Changes.{FileState}
use Rattle.glk_cause.specs.declared.cause.Cause.{Cause}
use Rattle.glk_cause.specs.Reading.{AnswersByReading}
use Rattle.glk_cause.proofs.ChainLaws.{exits}
use Rattle.glk_arena.specs.ConfigViews.{file_in}
use Rattle.glk_arena.specs.World.{Package}
use Rattle.glk_arena.specs.Waves.{LoadInputs, IsLoad, IsOfPackages}
use Rattle.glk_link.specs.Answers.{PackagesAnswer}
use Rattle.glk_link.specs.Config.{Listing}
use Rattle.glk_link.proofs.LinkAnswers.{not_told, not_loaded, packages_loaded}
use Rattle.glk_link.proofs.driver.load_packages.Goals as goal

-- what loading answers for a main file
abbrev LoadsFrom : FileState → FileState → Listing → Result (List Package) (Fault Cause) → List ℕ → Type 0
LoadsFrom old new listed r main =
    let inputs : LoadInputs = record { main = main; listed = listed } in
    AnswersByReading {C = List Package} old new (IsOfPackages inputs) (λ files. IsLoad inputs files) (λ w. w) r

pub returns-in_err-told : goal.returns-in_err-told
returns-in_err-told g c =
    let e = c.in_err-told.field-0.0 in
    let old : FileState = g.F.Files.state c.args.files.now in
    let mid : FileState = g.F.Files.state c.read_config_files.new.files in
    exits (PackagesAnswer old mid c.args.opts.now) c.from_residual.result e c.from_residual.ensures.1
    (not_told c.args.opts.now c.requires old mid e c.in_err-told.ensures.tells)

pub returns-in_err-loaded : goal.returns-in_err-loaded
returns-in_err-loaded g c =
    let e = c.in_err-loaded.field-0.0 in
    let told = c.in_ok-told.told in
    let old : FileState = g.F.Files.state c.args.files.now in
    let mid : FileState = g.F.Files.state c.read_config_files.new.files in
    let new : FileState = g.F.Files.state c.load_waves.new.files in
    let loads = subst (LoadsFrom mid new (file_in told.config) (Err e)) c.as_str.ensures c.in_err-loaded.ensures.loads in
    exits (PackagesAnswer old new c.args.opts.now) c.from_residual-in_err-loaded.result e c.from_residual-in_err-loaded.ensures.1
    (not_loaded c.args.opts.now c.requires told old mid c.in_ok-told.ensures.without c.in_ok-told.ensures.tells new e loads)

pub returns : goal.returns
returns g c =
    let told = c.in_ok-told.told in
    let world = c.in_ok-loaded.loaded in
    let old : FileState = g.F.Files.state c.args.files.now in
    let mid : FileState = g.F.Files.state c.read_config_files.new.files in
    let new : FileState = g.F.Files.state c.load_waves.new.files in
    let loads = subst (LoadsFrom mid new (file_in told.config) (Ok world)) c.as_str.ensures c.in_ok-loaded.ensures.loads in
    packages_loaded c.args.opts.now c.requires told old mid c.in_ok-told.ensures.without c.in_ok-told.ensures.tells new world loads
