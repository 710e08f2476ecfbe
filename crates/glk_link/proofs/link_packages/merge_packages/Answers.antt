use Rattle.glk_keys.specs.Programs.{Program}
use Rattle.glk_link.specs.Outputs.{program_by}
use Rattle.glk_link.proofs.ClashSteps.{no_clash, clashes, of_objects}
use Rattle.glk_link.proofs.link_packages.merge_packages.Goals as goal

pub returns-in-Ok-clause-merged : goal.returns-in-Ok-clause-merged
returns-in-Ok-clause-merged g c = no_clash (program_by c.args.entry.now c.args.inputs.now) c.in-Ok.ensures.apart

pub clash_cause-requires-clause-first : goal.clash_cause-requires-clause-first
clash_cause-requires-clause-first g c =
    let first = rw c.in-Err-Bad.field-0-is at c.in-Err-Bad.ensures.clash in
    of_objects (program_by c.args.entry.now c.args.inputs.now) c.in-Err-Bad.clash.first.0 first.first_defines

pub clash_cause-requires-clause-second : goal.clash_cause-requires-clause-second
clash_cause-requires-clause-second g c =
    let first = rw c.in-Err-Bad.field-0-is at c.in-Err-Bad.ensures.clash in
    of_objects (program_by c.args.entry.now c.args.inputs.now) c.in-Err-Bad.clash.second.0 first.second_defines

pub returns-in_ok-clash_cause-in-Err-Bad-clause-merged : goal.returns-in_ok-clash_cause-in-Err-Bad-clause-merged
returns-in_ok-clash_cause-in-Err-Bad-clause-merged g c =
    let first = rw c.in-Err-Bad.field-0-is at c.in-Err-Bad.ensures.clash in
    clashes (program_by c.args.entry.now c.args.inputs.now) c.in-Err-Bad.clash first c.in_ok-clash_cause-in-Err-Bad.field-0 c.in_ok-clash_cause-in-Err-Bad.ensures
