-- The passes of a link in their order, each with its refusals. The first refusal of a link, and its image, are those of
-- this chain.
use Rattle.std.specs.Prelude.{◌≡◌, ℕ, ◌≤◌, List, [], All, Contains, length, Option, Some, None, Result, Ok, Err}
use Rattle.glk_cause.specs.declared.cause.Cause.{Cause}
use Rattle.glk_cause.specs.declared.cause.Cause.TheVariants as cause
use Rattle.glk_cause.specs.declared.cause.Form.TheVariants as form
use Rattle.glk_cause.specs.declared.cause.Limit.TheVariants as limit
use Rattle.glk_io.specs.Contents.{Contents}
use Rattle.glk_cause.specs.Chain.{Then, Demands, Gives, Finds}
use Rattle.glk_arena.specs.World.{Package, objects_of, file_bytes}
use Rattle.glk_arena.specs.Waves.{LoadInputs, IsLoad}
use Rattle.glk_keys.specs.Programs.{Program, program_of}
use Rattle.glk_keys.specs.Rows.{row_count, row_limit}
use Rattle.glk_init_lists.specs.Schedules.{Scheduled, IsScheduled}
use Rattle.glk_link.specs.Options.{AsksUnbuilt}
use Rattle.glk_link.specs.Config.{Told, Puts, IsTold}
use Rattle.glk_link.specs.Merges.{IsClash, IsKnownConfig}
use Rattle.glk_link.specs.World.{definition_count}
use Rattle.glk_link.specs.Plain.{IsPlain}
use Rattle.glk_link.specs.Plans.{linked_bytes}
use Rattle.glk_link.specs.Reach.{IsEntry, AreKept}
use Rattle.glk_link.specs.Refusals.{IsFirstMiss, undefined_call}
use Rattle.glk_link.specs.Built.{IsBuilt}
use Rattle.glk_link.specs.Image.{IsStart, IsImageOf}
use Rattle.glk_link.specs.declared.options.LinkOptions.{LinkOptions}
use Rattle.glk_link.specs.declared.options.Report.{Report}

-- What passes hand on.

-- packages, the row at which their image starts, and the rows of the definitions that are kept
pub record Kept : Type 0 where
  pub world : List Package
  pub start : ℕ
  pub kept : List ℕ

-- what is linked in the end
pub record Linked : Type 0 where
  pub world : List Package
  pub kept : List ℕ
  pub image : List ℕ

-- The passes over the packages that are loaded.

abbrev pub HasFewRows : Program → Result Program Cause → Type 0
HasFewRows = Demands (λ p. row_count p ≤ row_limit) (λ p. cause.TooLarge limit.Rows (row_count p))

abbrev pub HasSmallFiles : Program → Result Program Cause → Type 0
HasSmallFiles = Demands (λ p. file_bytes p.world ≤ linked_bytes) (λ p. cause.NotYet form.Size)

abbrev pub IsWithinLimits : Program → Result Program Cause → Type 0
IsWithinLimits = Then HasFewRows HasSmallFiles

-- no definitions clash
abbrev pub IsMerged : Program → Result Program Cause → Type 0
IsMerged = Finds IsClash

-- no task is listed: it would be kept beside the entry
abbrev pub HasNoTasks : Scheduled → Result Scheduled Cause → Type 0
HasNoTasks = Demands (λ s. (s.main ≡ []) × (s.runtime ≡ [])) (λ s. cause.NotYet form.Object)

abbrev pub HasKnownConfig : Program → Result Program Cause → Type 0
HasKnownConfig = Demands IsKnownConfig (λ p. cause.NotYet form.Object)

abbrev pub HasPlainObjects : List Package → Result (List Package) Cause → Type 0
HasPlainObjects = Demands IsPlain (λ world. cause.NotYet form.Object)

abbrev pub HasEntry : List ℕ → List Package → Result (List Package) Cause → Type 0
HasEntry entry = Demands (λ world. (i : ℕ) × IsEntry world entry i) (λ world. cause.Undefined [] entry)

pub record IsReach (entry : List ℕ) (world : List Package) (k : Kept) : Type 0 where
  pub packages : k.world ≡ world
  pub start : IsStart world entry k.start
  pub kept : AreKept world entry k.kept

abbrev pub Reaches : List ℕ → List Package → Result Kept Cause → Type 0
Reaches entry = Then (HasEntry entry) (Gives (IsReach entry))

pub record IsUndefined (k : Kept) (refusal : Cause) : Type 0 where
  pub row : ℕ
  pub index : ℕ
  pub first : IsFirstMiss k.world (Contains k.kept) row index
  pub refusal_is : refusal ≡ undefined_call k.world row index

abbrev pub FindsCallees : Kept → Result Kept Cause → Type 0
FindsCallees = Finds IsUndefined

abbrev pub HasPlacedSymbols : Kept → Result Kept Cause → Type 0
HasPlacedSymbols = Demands (λ k. All (IsBuilt k.world) k.kept) (λ k. cause.NotYet form.Symbol)

pub record IsLinkOf (k : Kept) (linked : Linked) : Type 0 where
  pub packages : linked.world ≡ k.world
  pub kept : linked.kept ≡ k.kept
  pub image : IsImageOf k.world k.kept k.start linked.image

abbrev pub Images : Kept → Result Linked Cause → Type 0
Images = Gives IsLinkOf

-- what is kept of packages within the limits, or the first refusal on the way
abbrev pub Keeps : List ℕ → List Package → Result Kept Cause → Type 0
Keeps entry = Then HasPlainObjects (Then (Reaches entry) FindsCallees)

-- what is linked of packages within the limits from the entry on, or the first refusal on the way
abbrev pub LinksWorld : List ℕ → List Package → Result Linked Cause → Type 0
LinksWorld entry = Then (Keeps entry) (Then HasPlacedSymbols Images)

-- what is linked of a program without tasks
abbrev pub LinksProgram : Program → Result Linked Cause → Type 0
LinksProgram = Then HasKnownConfig (λ p. LinksWorld p.entry p.world)

abbrev pub LinksPackages : Program → Result Linked Cause → Type 0
LinksPackages = Then IsWithinLimits (Then IsMerged (Then IsScheduled (Then HasNoTasks (λ s. LinksProgram s.program))))

-- The passes over options and files.

abbrev pub IsSupported : LinkOptions → Result LinkOptions Cause → Type 0
IsSupported = Demands (λ opts. AsksUnbuilt opts → ⊥) (λ opts. cause.NotYet form.Flag)

abbrev pub load_inputs : Told → LoadInputs
load_inputs told = record { main = told.opts.main; listed = told.listed }

abbrev pub program_with : Told → List Package → Program
program_with told world = program_of world told.opts.entry told.builtins told.numbers

abbrev pub Loads : Contents → Told → Result Program Cause → Type 0
Loads files = Puts (λ told. IsLoad (load_inputs told) files) program_with

-- what is loaded: what is told, and the packages of a link, or the first refusal on the way
abbrev pub LoadsPackages : Contents → LinkOptions → Result Program Cause → Type 0
LoadsPackages files opts = Then IsSupported (Then (IsTold files) (Loads files)) opts

-- what a link comes to: what is linked, or the first refusal
abbrev pub IsLink : Contents → LinkOptions → Result Linked Cause → Type 0
IsLink files opts = Then (LoadsPackages files) LinksPackages opts

-- the first refusal, or none; and the image
abbrev pub FirstRefusal : Contents → LinkOptions → Option Cause → Type 0
FirstRefusal files opts None = (linked : Linked) × IsLink files opts (Ok linked)
FirstRefusal files opts (Some refusal) = IsLink files opts (Err refusal)

abbrev pub IsImage : Contents → LinkOptions → List ℕ → Type 0
IsImage files opts image = (linked : Linked) × IsLink files opts (Ok linked) × (linked.image ≡ image)

-- the report of it
abbrev pub report_of : Linked → Report
report_of linked = record {
  packages = length linked.world;
  definitions = definition_count (objects_of linked.world);
  kept = length linked.kept;
  image = length linked.image;
}

-- There is an answer for all known files: an image, or a first refusal. A law that a public function promises.
abbrev pub IsSomeFirst : Type 0
IsSomeFirst = (files : Contents) (opts : LinkOptions) → (first : Option Cause) × FirstRefusal files opts first

-- Laws that public functions promise: there is one answer of a link, so one first refusal and one image.
abbrev pub IsOneLink : Type 0
IsOneLink = (files : Contents) (opts : LinkOptions) (a b : Result Linked Cause) → IsLink files opts a → IsLink files opts b → a ≡ b

abbrev pub IsOneFirst : Type 0
IsOneFirst = (files : Contents) (opts : LinkOptions) (a b : Option Cause) → FirstRefusal files opts a → FirstRefusal files opts b → a ≡ b

abbrev pub IsOneImage : Type 0
IsOneImage = (files : Contents) (opts : LinkOptions) (a b : List ℕ) → IsImage files opts a → IsImage files opts b → a ≡ b
