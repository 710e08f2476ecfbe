-- How far the passes over the packages have come: what is left of the chain answers for the whole.
use Rattle.std.proofs.Common.{ℕ, List, Ok, Err}
use Rattle.std.specs.Prelude.{Result}
use Rattle.glk_cause.specs.declared.cause.Cause.{Cause}
use Rattle.glk_base.specs.declared.fault.Fault.{Fault}
use Rattle.glk_base.specs.declared.fault.Fault.TheVariants as fault
use Rattle.glk_cause.specs.Chain.{Then, Answers}
use Rattle.glk_cause.proofs.ChainLaws.{went_on}
use Rattle.glk_arena.specs.World.{Package}
use Rattle.glk_keys.specs.Programs.{Program}
use Rattle.glk_init_lists.specs.Outputs.{scheduled_of}
use Rattle.glk_init_lists.specs.Schedules.{Scheduled, IsScheduled}
use Rattle.glk_init_lists.specs.declared.lists.InitLists.{InitLists}
use Rattle.glk_link.specs.Passes.{Kept, Linked, IsWithinLimits, IsMerged, HasNoTasks, HasKnownConfig, HasPlainObjects, Reaches, FindsCallees, HasPlacedSymbols, Images, Keeps, LinksWorld, LinksProgram, LinksPackages}
use Rattle.glk_link.specs.Outputs.{kept_of, linked_of}
use Rattle.glk_link.specs.declared.link_packages.Reached.{Reached}
use Rattle.glk_link.specs.declared.link_packages.Output.{Output}

-- an error is one of a call that gives anything else
module _ {B C D : Type 0} (S : Result B Cause → Type 0) (v : C → B) (w : D → B) where
  pub same_error : (e : Fault Cause) → Answers S v (Err e) → Answers S w (Err e)
  same_error (fault.Bad refusal) h = h
  same_error fault.OutOfMemory h = tt

abbrev pub FromSymbols : Kept → Result Linked Cause → Type 0
FromSymbols = Then HasPlacedSymbols Images

abbrev pub FromReach : List ℕ → List Package → Result Kept Cause → Type 0
FromReach entry = Then (Reaches entry) FindsCallees

abbrev pub FromWorld : Program → Result Linked Cause → Type 0
FromWorld l answer = LinksWorld l.entry l.world answer

abbrev pub FromTasks : Scheduled → Result Linked Cause → Type 0
FromTasks = Then HasNoTasks (λ s. LinksProgram s.program)

abbrev pub FromSchedule : Program → Result Linked Cause → Type 0
FromSchedule = Then IsScheduled FromTasks

abbrev pub FromClashes : Program → Result Linked Cause → Type 0
FromClashes = Then IsMerged FromSchedule

-- The passes up to what is kept.

module _ (entry : List ℕ) (world : List Package) (plain : HasPlainObjects world (Ok world)) where
  pub on_objects : (r : Result Reached (Fault Cause)) → Answers (FromReach entry world) (kept_of world) r → Answers (Keeps entry world) (kept_of world) r
  on_objects r h = went_on HasPlainObjects (FromReach entry) world (kept_of world) world r plain h

  pub on_reached : (k : Kept) → Reaches entry world (Ok k) → (r : Result Reached (Fault Cause)) → Answers (FindsCallees k) (kept_of world) r → Answers (Keeps entry world) (kept_of world) r
  on_reached k reached r h = on_objects r (went_on (Reaches entry) FindsCallees world (kept_of world) k r reached h)

-- The passes over a world.

module _ (entry : List ℕ) (world : List Package) (k : Kept) (keeps : Keeps entry world (Ok k)) where
  pub on_kept : (r : Result Output (Fault Cause)) → Answers (FromSymbols k) (linked_of world) r → Answers (LinksWorld entry world) (linked_of world) r
  on_kept r h = went_on (Keeps entry) FromSymbols world (linked_of world) k r keeps h

  pub on_symbols : HasPlacedSymbols k (Ok k) → (r : Result Output (Fault Cause)) → Answers (Images k) (linked_of world) r → Answers (LinksWorld entry world) (linked_of world) r
  on_symbols symbols r h = on_kept r (went_on HasPlacedSymbols Images k (linked_of world) k r symbols h)

-- The passes over what is loaded.

module _ (l : Program) (limits : IsWithinLimits l (Ok l)) where
  pub on_limits : (r : Result Output (Fault Cause)) → Answers (FromClashes l) (linked_of l.world) r → Answers (LinksPackages l) (linked_of l.world) r
  on_limits r h = went_on IsWithinLimits FromClashes l (linked_of l.world) l r limits h

  module _ (merged : IsMerged l (Ok l)) where
    pub on_merged : (r : Result Output (Fault Cause)) → Answers (FromSchedule l) (linked_of l.world) r → Answers (LinksPackages l) (linked_of l.world) r
    on_merged r h = on_limits r (went_on IsMerged FromSchedule l (linked_of l.world) l r merged h)

    module _ (lists : InitLists) (scheduled : IsScheduled l (Ok (scheduled_of l lists))) where
      pub on_schedule : (r : Result Output (Fault Cause)) → Answers (FromTasks (scheduled_of l lists)) (linked_of l.world) r → Answers (LinksPackages l) (linked_of l.world) r
      on_schedule r h = on_merged r (went_on IsScheduled FromTasks l (linked_of l.world) (scheduled_of l lists) r scheduled h)

      module _ (none : HasNoTasks (scheduled_of l lists) (Ok (scheduled_of l lists))) where
        pub on_tasks : (r : Result Output (Fault Cause)) → Answers (LinksProgram l) (linked_of l.world) r → Answers (LinksPackages l) (linked_of l.world) r
        on_tasks r h = on_schedule r (went_on HasNoTasks (λ (s : Scheduled). LinksProgram s.program) (scheduled_of l lists) (linked_of l.world) (scheduled_of l lists) r none h)

        pub on_config : HasKnownConfig l (Ok l) → (r : Result Output (Fault Cause)) → Answers (FromWorld l) (linked_of l.world) r → Answers (LinksPackages l) (linked_of l.world) r
        on_config known r h = on_tasks r (went_on HasKnownConfig FromWorld l (linked_of l.world) l r known h)
