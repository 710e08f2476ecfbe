use Rattle.std.proofs.Common.{◌≡◌, List, ℕ, Ok, Err, ap, sym, subst}
use Rattle.std.specs.Prelude.{Result}
use Rattle.glk_base.specs.declared.fault.Fault.{Fault}
use Rattle.glk_cause.specs.declared.cause.Cause.{Cause}
use Rattle.glk_cause.specs.Chain.{Answers}
use Rattle.glk_cause.proofs.ChainLaws.{stopped, exits}
use Rattle.glk_init_lists.specs.Outputs.{scheduled_of}
use Rattle.glk_init_lists.specs.Schedules.{IsScheduled}
use Rattle.glk_init_lists.specs.declared.lists.InitLists.{InitLists}
use Rattle.glk_keys.specs.Programs.{Program}
use Rattle.glk_merge.specs.Mergings.{Merging}
use Rattle.glk_link.specs.Passes.{IsWithinLimits, IsMerged, HasNoTasks, HasKnownConfig, LinksProgram, LinksPackages}
use Rattle.glk_link.specs.Outputs.{program_by, linked_of}
use Rattle.glk_link.specs.declared.link_packages.Output.{Output}
use Rattle.glk_link.proofs.PassSteps.{FromWorld, FromTasks, FromSchedule, FromClashes, on_limits, on_merged, on_schedule, on_tasks, on_config}
use Rattle.glk_link.proofs.RowCounts.{rows_few}
use Rattle.glk_link.proofs.link_packages.link_packages.Goals as goal

abbrev Links : Program → Result Output (Fault Cause) → Type 0
Links l r = Answers (LinksPackages l) (linked_of l.world) r

-- what a program is scheduled to, another that is equal is
moved : (p l : Program) → p ≡ l → (r : Result InitLists (Fault Cause)) → Answers (IsScheduled p) (scheduled_of p) r → Answers (IsScheduled l) (scheduled_of l) r
moved p l same r h = subst (λ (q : Program). Answers (IsScheduled q) (scheduled_of q) r) same h

pub returns-in_err-check_limits-clause-linked : goal.returns-in_err-check_limits-clause-linked
returns-in_err-check_limits-clause-linked g c =
    let e = c.in_err-check_limits.field-0.0 in
    let l : Program = program_by c.args.entry.now c.args.inputs.now in
    exits (Links l) c.from_residual.result e c.from_residual.ensures.1
    (stopped IsWithinLimits FromClashes l (linked_of l.world) (λ (done : Unit {0}). l) e c.in_err-check_limits.ensures.limits)

pub returns-in_err-merged-clause-linked : goal.returns-in_err-merged-clause-linked
returns-in_err-merged-clause-linked g c =
    let e = c.in_err-merged.field-0.0 in
    let l : Program = program_by c.args.entry.now c.args.inputs.now in
    exits (Links l) c.from_residual-in_err-merged.result e c.from_residual-in_err-merged.ensures.1
    (on_limits l c.in_ok-check_limits.ensures.limits (Err e)
    (stopped IsMerged FromSchedule l (linked_of l.world) (λ (done : Merging). l) e c.in_err-merged.ensures.merged))

pub schedule-requires : goal.schedule-requires
schedule-requires g c = ap (λ (p : Program). p.world) (sym c.in_ok-merged.ensures.program)

pub returns-in_err-lists-clause-linked : goal.returns-in_err-lists-clause-linked
returns-in_err-lists-clause-linked g c =
    let e = c.in_err-lists.field-0.0 in
    let l : Program = program_by c.args.entry.now c.args.inputs.now in
    exits (Links l) c.from_residual-in_err-lists.result e c.from_residual-in_err-lists.ensures.1
    (on_merged l c.in_ok-check_limits.ensures.limits c.in_ok-merged.ensures.merged (Err e)
    (stopped IsScheduled FromTasks l (linked_of l.world) (scheduled_of l) e
    (moved c.in_ok-merged.merged.program l c.in_ok-merged.ensures.program (Err e) c.in_err-lists.ensures)))

pub returns-in_err-check_tasks-clause-linked : goal.returns-in_err-check_tasks-clause-linked
returns-in_err-check_tasks-clause-linked g c =
    let e = c.in_err-check_tasks.field-0.0 in
    let l : Program = program_by c.args.entry.now c.args.inputs.now in
    let lists : InitLists = c.in_ok-lists.lists in
    exits (Links l) c.from_residual-in_err-check_tasks.result e c.from_residual-in_err-check_tasks.ensures.1
    (on_schedule l c.in_ok-check_limits.ensures.limits c.in_ok-merged.ensures.merged lists
    (moved c.in_ok-merged.merged.program l c.in_ok-merged.ensures.program (Ok lists) c.in_ok-lists.ensures) (Err e)
    (stopped HasNoTasks (λ s. LinksProgram s.program) (scheduled_of l lists) (linked_of l.world) (λ (done : Unit {0}). scheduled_of l lists) e (c.in_err-check_tasks.ensures l)))

pub returns-in_err-check_config-clause-linked : goal.returns-in_err-check_config-clause-linked
returns-in_err-check_config-clause-linked g c =
    let e = c.in_err-check_config.field-0.0 in
    let l : Program = program_by c.args.entry.now c.args.inputs.now in
    let lists : InitLists = c.in_ok-lists.lists in
    exits (Links l) c.from_residual-in_err-check_config.result e c.from_residual-in_err-check_config.ensures.1
    (on_tasks l c.in_ok-check_limits.ensures.limits c.in_ok-merged.ensures.merged lists
    (moved c.in_ok-merged.merged.program l c.in_ok-merged.ensures.program (Ok lists) c.in_ok-lists.ensures) (c.in_ok-check_tasks.ensures l) (Err e)
    (stopped HasKnownConfig FromWorld l (linked_of l.world) (λ (done : Unit {0}). l) e c.in_err-check_config.ensures))

pub link_world-requires-clause-rows : goal.link_world-requires-clause-rows
link_world-requires-clause-rows g c = rows_few (program_by c.args.entry.now c.args.inputs.now) c.in_ok-check_limits.ensures.rows

pub returns-clause-linked : goal.returns-clause-linked
returns-clause-linked g c =
    let l : Program = program_by c.args.entry.now c.args.inputs.now in
    let lists : InitLists = c.in_ok-lists.lists in
    on_config l c.in_ok-check_limits.ensures.limits c.in_ok-merged.ensures.merged lists
    (moved c.in_ok-merged.merged.program l c.in_ok-merged.ensures.program (Ok lists) c.in_ok-lists.ensures)
    (c.in_ok-check_tasks.ensures l) c.in_ok-check_config.ensures c.link_world.result c.link_world.ensures.linked
