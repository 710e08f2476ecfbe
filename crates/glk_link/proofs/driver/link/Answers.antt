use Rattle.std.proofs.Common.{refl, Err}
use Rattle.glk_base.specs.declared.fault.Fault.TheVariants as fault
use Rattle.glk_cause.specs.declared.cause.Cause.TheVariants as cause
use Rattle.glk_cause.specs.declared.cause.Form.TheVariants as form
use Rattle.glk_link.proofs.LinkAnswers.{complete, unsupported}
use Rattle.glk_link.proofs.driver.link.Goals as goal

pub returns-then-asks_unbuilt-clause-means : goal.returns-then-asks_unbuilt-clause-means
returns-then-asks_unbuilt-clause-means g c = unsupported (g.F.Files.state c.args.files.now) c.args.opts.now (c.if-asks_unbuilt.ensures.0 refl)

pub returns-then-asks_unbuilt-clause-due : goal.returns-then-asks_unbuilt-clause-due
returns-then-asks_unbuilt-clause-due g c =
    complete c.one_load.ensures c.one_schedule.ensures (g.F.Files.state c.args.files.now) (g.F.Files.state c.args.files.now) c.args.opts.now (Err (fault.Bad (cause.NotYet form.Flag)))
    (unsupported (g.F.Files.state c.args.files.now) c.args.opts.now (c.if-asks_unbuilt.ensures.0 refl))

pub returns-clause-due : goal.returns-clause-due
returns-clause-due g c =
    complete c.one_load.ensures c.one_schedule.ensures (g.F.Files.state c.args.files.now) (g.F.Files.state c.link_files.new.files) c.args.opts.now c.link_files.result c.link_files.ensures
