use Rattle.std.proofs.Common.{◌∙◌, List, ℕ, Ok, Err, subst}
use Rattle.glk_io.specs.Changes.{FileState}
use Rattle.glk_cause.specs.Chain.{Answers}
use Rattle.glk_cause.specs.Writing.{WritesWhole}
use Rattle.glk_cause.proofs.ChainLaws.{exits}
use Rattle.glk_cause.proofs.ReadingLaws.{always_known}
use Rattle.glk_link.specs.Answers.{LinkAnswer}
use Rattle.glk_link.specs.Passes.{LinksPackages}
use Rattle.glk_link.specs.Outputs.{program_by, linked_of}
use Rattle.glk_link.proofs.LinkAnswers.{no_packages, leads, not_linked, written, not_written}
use Rattle.glk_link.proofs.driver.link_files.Goals as goal

pub returns-in_err-inputs : goal.returns-in_err-inputs
returns-in_err-inputs g c =
    let e = c.in_err-inputs.field-0.0 in
    let old : FileState = g.F.Files.state c.args.files.now in
    let new : FileState = g.F.Files.state c.load_packages.new.files in
    exits (LinkAnswer old new c.args.opts.now) c.from_residual.result e c.from_residual.ensures.1
    (no_packages old new c.args.opts.now e c.in_err-inputs.ensures)

pub returns-in_err-output : goal.returns-in_err-output
returns-in_err-output g c =
    let e = c.in_err-output.field-0.0 in
    let inputs = c.in_ok-inputs.inputs in
    let old : FileState = g.F.Files.state c.args.files.now in
    let new : FileState = g.F.Files.state c.load_packages.new.files in
    let led = leads old new c.args.opts.now inputs c.in_ok-inputs.ensures in
    let P : List ℕ → Type 0 = λ n. Answers (LinksPackages (program_by n inputs)) (linked_of inputs.loaded) (Err e) in
    let links = subst P (c.as_bytes-entry.ensures.value ∙ c.as_str.ensures) c.in_err-output.ensures.linked in
    exits (LinkAnswer old new c.args.opts.now) c.from_residual-in_err-output.result e c.from_residual-in_err-output.ensures.1
    (not_linked c.args.opts.now old new (program_by c.args.opts.now.entry inputs) (linked_of inputs.loaded) e led links)

pub returns-in_err-write_named : goal.returns-in_err-write_named
returns-in_err-write_named g c =
    let e = c.in_err-write_named.field-0.0 in
    let inputs = c.in_ok-inputs.inputs in
    let linked = linked_of inputs.loaded c.in_ok-output.output in
    let old : FileState = g.F.Files.state c.args.files.now in
    let new : FileState = g.F.Files.state c.load_packages.new.files in
    let end : FileState = g.F.Files.state c.write_named.new.files in
    let led = leads old new c.args.opts.now inputs c.in_ok-inputs.ensures in
    let links = rw (c.as_bytes-entry.ensures.value, c.as_str.ensures) at c.in_ok-output.ensures.linked in
    let P : List ℕ → List ℕ → Type 0 = λ p b. WritesWhole {C = Unit {0}} new end p b (Err e) in
    let at_path = subst (λ p. P p c.deref.result.now) c.as_str-2.ensures c.in_err-write_named.ensures in
    let wrote = subst (λ b. P c.args.opts.now.out b) c.deref.ensures.value at_path in
    exits (LinkAnswer old end c.args.opts.now) c.from_residual-in_err-write_named.result e c.from_residual-in_err-write_named.ensures.1
    (not_written c.args.opts.now old new end linked led.0 (always_known _ _ old.contents (λ files f. f (Ok linked) links) led.1) e wrote)

pub returns : goal.returns
returns g c =
    let inputs = c.in_ok-inputs.inputs in
    let linked = linked_of inputs.loaded c.in_ok-output.output in
    let old : FileState = g.F.Files.state c.args.files.now in
    let new : FileState = g.F.Files.state c.load_packages.new.files in
    let end : FileState = g.F.Files.state c.write_named.new.files in
    let led = leads old new c.args.opts.now inputs c.in_ok-inputs.ensures in
    let links = rw (c.as_bytes-entry.ensures.value, c.as_str.ensures) at c.in_ok-output.ensures.linked in
    let wrote = rw (c.as_str-2.ensures, c.deref.ensures.value) at c.in_ok-write_named.ensures in
    written c.args.opts.now old new end linked led.0 (always_known _ _ old.contents (λ files f. f (Ok linked) links) led.1) c.in_ok-output.output.report c.in_ok-output.ensures.report wrote
