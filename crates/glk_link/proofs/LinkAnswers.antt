-- What the passes of a link say of its answer.
use Rattle.std.proofs.Common.{◌≡◌, inl, inr, ℕ, List, Option, Some, None, refl, sym, ap, subst, Ok, Err}
use Rattle.std.specs.Prelude.{Result, IsSome}
use Rattle.glk_base.specs.declared.fault.Fault.{Fault}
use Rattle.glk_base.specs.declared.fault.Fault.TheVariants as fault
use Rattle.glk_io.specs.Contents.{Contents, IfKnown}
use Rattle.glk_io.specs.Changes.{FileState, FilesUnchanged}
use Rattle.glk_cause.specs.declared.cause.Cause.{Cause}
use Rattle.glk_cause.specs.declared.cause.Cause.TheVariants as cause
use Rattle.glk_cause.specs.declared.cause.Form.TheVariants as form
use Rattle.glk_cause.specs.Sorts.{Sort, by_reads, by_writes, of_file, of_package, of_input, of_config, of_options, of_link, foreign, sort_of}
use Rattle.std.specs.Option.{option_map}
use Rattle.glk_cause.specs.Chain.{stops, goes_on, gives, fails, holds, Answers}
use Rattle.glk_cause.specs.Reading.{AnswersByReading}
use Rattle.glk_cause.specs.Writing.{WritesWhole, OutputPartlyWritten, RefusesToWrite}
use Rattle.glk_cause.proofs.ChainLaws.{RefusesOnly, then_only, demands_only, gives_only, finds_only}
use Rattle.glk_cause.proofs.ReadingLaws.{known, always, always_known, IsPure, reading_stopped, reading_ends, reading_on}
use Rattle.glk_cause.proofs.WritingLaws.{writing_stopped, writing_done, writing_failed}
use Rattle.glk_arena.specs.ConfigViews.{file_in}
use Rattle.glk_arena.specs.World.{Package}
use Rattle.glk_arena.specs.Waves.{IsLoad, IsOneLoad, IsPackagePath, IsOfPackages}
use Rattle.glk_init_lists.specs.Schedules.{IsOneSchedule}
use Rattle.glk_init_lists.proofs.Steps.{refusals_of_link}
use Rattle.glk_link.specs.declared.options.LinkOptions.{LinkOptions}
use Rattle.glk_link.specs.declared.options.Report.{Report}
use Rattle.glk_link.specs.Options.{AsksUnbuilt}
use Rattle.glk_link.specs.Config.{Listing, Told, TellsFiles, IsTold, IsOfTold}
use Rattle.glk_keys.specs.Clashes.{Clash, first_clash}
use Rattle.glk_keys.specs.Programs.{Program}
use Rattle.glk_link.specs.Merges.{clash_refusal}
use Rattle.glk_link.specs.Outputs.{told_by, program_by}
use Rattle.glk_link.specs.declared.config_files.ConfigFiles.{ConfigFiles}
use Rattle.glk_link.specs.declared.inputs.Inputs.{Inputs}
use Rattle.glk_link.specs.Passes.{Linked, LinksWorld, LinksProgram, LinksPackages, load_inputs, program_with, LoadsPackages, IsLink, report_of}
use Rattle.glk_link.specs.Answers.{IsPackageFile, MayRefuse, MayRefuseToLoad, ToldAnswer, PackagesAnswer, LinkAnswer, MustAnswer, AnswersUnlessIoFails}
use Rattle.glk_link.proofs.LinkOnce.{one_link}
use Rattle.glk_link.proofs.ToldLaws.{told_files}

-- The table of answers is complete.

module _ (one : IsOneLoad) (schedule : IsOneSchedule) (old new : FileState) (opts : LinkOptions) where
  due : (files : Contents) (a b : Result Linked Cause) (r : Result Report (Fault Cause)) → IsLink files opts a → IsLink files opts b
      → MustAnswer old new a r → MustAnswer old new b r
  due files a b r x y h = subst (λ (c : Result Linked Cause). MustAnswer old new c r) (one_link one schedule files opts a b x y) h

  refusal_due : (refusal : Cause) → IfKnown old.contents (λ files. IsLink files opts (Err refusal)) → AnswersUnlessIoFails old new opts (Err (fault.Bad refusal))
  refusal_due refusal h =
      always_known _ _ old.contents (λ files is answer is_answer. due files (Err refusal) answer (Err (fault.Bad refusal)) is is_answer (λ reads. inl refl)) h

  of_sort : (refusal : Cause) (s : Sort)
      → RefusesToWrite old new (OutputPartlyWritten old new (λ files. IsLink files opts) opts.out (λ (linked : Linked). linked.image)) (IfKnown old.contents (λ files. IsLink files opts (Err refusal))) s
      → AnswersUnlessIoFails old new opts (Err (fault.Bad refusal))
  of_sort refusal (by_reads path count) h = always old.contents (λ files answer is. failed answer)
    where
      failed : (answer : Result Linked Cause) → MustAnswer old new answer (Err (fault.Bad refusal))
      failed (Ok linked) = λ reads writes. absurd (reads h.0.rose)
      failed (Err other) = λ reads. absurd (reads h.0.rose)
  of_sort refusal (by_writes path count) h =
      always_known _ _ old.contents (λ files is answer is_answer. due files (Ok is.0) answer (Err (fault.Bad refusal)) is.1 is_answer (λ reads writes. absurd (writes h.0.rose))) h.1
  of_sort refusal (of_file path) h = refusal_due refusal h.1
  of_sort refusal (of_package path) h = refusal_due refusal h.1
  of_sort refusal (of_input path) h = refusal_due refusal h.1
  of_sort refusal (of_config path) h = refusal_due refusal h.1
  of_sort refusal of_options h = refusal_due refusal h.1
  of_sort refusal of_link h = refusal_due refusal h.1
  of_sort refusal foreign h = refusal_due refusal h.1

  pub complete : (r : Result Report (Fault Cause)) → LinkAnswer old new opts r → AnswersUnlessIoFails old new opts r
  complete (Ok report) h =
      always_known _ _ old.contents (λ files is answer is_answer. due files (Ok is.0) answer (Ok report) is.1 is_answer (λ reads writes. inl (ap Ok is.3))) h.1
  complete (Err (fault.Bad refusal)) h = of_sort refusal (sort_of refusal) h.1
  complete (Err fault.OutOfMemory) h = always old.contents (λ files answer is. no_memory answer)
    where
      no_memory : (answer : Result Linked Cause) → MustAnswer old new answer (Err fault.OutOfMemory)
      no_memory (Ok linked) = λ reads writes. inr refl
      no_memory (Err refusal) = λ reads. inr refl

-- What is asked for is not supported.

pub unsupported : (state : FileState) (opts : LinkOptions) → AsksUnbuilt opts → LinkAnswer state state opts (Err (fault.Bad (cause.NotYet form.Flag)))
unsupported state opts asks = (asks, (refl, always state.contents (λ held. stops (cause.NotYet form.Flag) (stops (cause.NotYet form.Flag) (fails (λ built. built asks))))))

pub unsupported_load : (state : FileState) (opts : LinkOptions) → AsksUnbuilt opts → PackagesAnswer state state opts (Err (fault.Bad (cause.NotYet form.Flag)))
unsupported_load state opts asks = (asks, (refl, always state.contents (λ held. stops (cause.NotYet form.Flag) (fails (λ built. built asks)))))

-- Refusals of passes that read.

-- the answer of a pass that reads, as one of the link
refused : (old new : FileState) (opts : LinkOptions) (Al : Sort → Type 0) → ((s : Sort) → Al s → MayRefuse old.contents opts s) → ((path : List ℕ) (count : ℕ) → Al (by_writes path count) → ⊥)
    → (e : Fault Cause) → AnswersByReading {C = Linked} old new Al (λ files. IsLink files opts) (λ l. l) (Err e) → LinkAnswer old new opts (Err e)
refused old new opts Al more only e h =
    writing_stopped (MayRefuse old.contents opts) (λ files. IsLink files opts) opts.out (λ (linked : Linked). linked.image) report_of old new Al (λ (l : Linked). l) more only e h

-- the packages are not loaded
to_link : (before : Option Contents) (opts : LinkOptions) (s : Sort) → MayRefuseToLoad before opts s → MayRefuse before opts s
to_link before opts (by_writes path count) h = absurd h
to_link before opts s h = h

pub no_packages : (old new : FileState) (opts : LinkOptions) (e : Fault Cause) → PackagesAnswer old new opts (Err e) → LinkAnswer old new opts (Err e)
no_packages old new opts e h =
    refused old new opts (MayRefuseToLoad old.contents opts) (to_link old.contents opts) (λ path count a. a) e
    (reading_stopped old new (MayRefuseToLoad old.contents opts) (MayRefuseToLoad old.contents opts) (λ files. LoadsPackages files opts) (λ files. IsLink files opts) (program_by opts.entry) (λ (l : Linked). l)
    (λ s a. a) (always old.contents (λ files refusal c. stops refusal c)) e h)

-- what the packages come to, the link does
pub leads : (old new : FileState) (opts : LinkOptions) (inputs : Inputs) → PackagesAnswer old new opts (Ok inputs)
    → FilesUnchanged old new × IfKnown old.contents (λ files. (answer : Result Linked Cause) → LinksPackages (program_by opts.entry inputs) answer → IsLink files opts answer)
leads old new opts inputs h = (h.0, always_known _ _ old.contents (λ files l answer is. goes_on (program_by opts.entry inputs) answer l is) h.1)

-- the configuration is refused
module _ (opts : LinkOptions) (built : AsksUnbuilt opts → ⊥) where
  told_allows : (before : Option Contents) (s : Sort) → IsOfTold opts s → MayRefuseToLoad before opts s
  told_allows before (by_reads path count) h = inl h
  told_allows before (by_writes path count) h = absurd h
  told_allows before (of_file path) h = inl h
  told_allows before (of_package path) h = absurd h
  told_allows before (of_input path) h = absurd h
  told_allows before (of_config path) h = h
  told_allows before of_options h = absurd h
  told_allows before of_link h = tt
  told_allows before foreign h = absurd h

  pub not_told : (old new : FileState) (e : Fault Cause) → ToldAnswer old new opts (Err e) → PackagesAnswer old new opts (Err e)
  not_told old new e h =
      reading_stopped old new (IsOfTold opts) (MayRefuseToLoad old.contents opts) (λ files. IsTold files opts) (λ files. LoadsPackages files opts) (told_by opts) (program_by opts.entry)
      (told_allows old.contents) (always old.contents (λ files refusal c. goes_on opts _ (holds built) (stops refusal c))) e h

-- a wave is refused
module _ (opts : LinkOptions) (built : AsksUnbuilt opts → ⊥) (config : ConfigFiles) (old mid : FileState)
    (bare : opts.importcfg ≡ None → (named : List ℕ) → file_in config.config named ≡ None)
    (configured : FilesUnchanged old mid × IfKnown old.contents (λ files. IsTold files opts (Ok (told_by opts config)))) where
  abbrev told : Told
  told = told_by opts config

  is_given : (o : Option (List ℕ)) (named path : List ℕ) → (o ≡ None → told.listed named ≡ None) → told.listed named ≡ Some path → IsSome o
  is_given (Some p) named path h is = refl
  is_given None named path h is = let none = h refl in cc

  package_file : (path : List ℕ) → IsPackagePath opts.main told.listed path → IsPackageFile old.contents opts path
  package_file path (inl e) = inl e
  package_file path (inr l) = inr (record {
    given = is_given opts.importcfg l.0 path (λ none. bare none l.0) l.1;
    listed = always_known _ _ old.contents (λ files c. (told.listed, (told_files files opts told c).listing, (l.0, l.1))) configured.1;
  })

  packages_allow : (s : Sort) → IsOfPackages (load_inputs told) s → MayRefuseToLoad old.contents opts s
  packages_allow (by_reads path count) h = inr (package_file path h)
  packages_allow (by_writes path count) h = absurd h
  packages_allow (of_file path) h = inr (package_file path h)
  packages_allow (of_package path) h = package_file path h
  packages_allow (of_input path) h = absurd h
  packages_allow (of_config path) h = absurd h
  packages_allow of_options h = absurd h
  packages_allow of_link h = tt
  packages_allow foreign h = absurd h

  pub not_loaded : (new : FileState) (e : Fault Cause)
      → AnswersByReading {C = List Package} mid new (IsOfPackages (load_inputs told)) (λ files. IsLoad (load_inputs told) files) (λ w. w) (Err e)
      → PackagesAnswer old new opts (Err e)
  not_loaded new e h =
      reading_stopped old new (IsOfPackages (load_inputs told)) (MayRefuseToLoad old.contents opts) (λ files. IsLoad (load_inputs told) files) (λ files. LoadsPackages files opts) (λ (w : List Package). w) (program_by opts.entry)
      packages_allow (always_known _ _ old.contents (λ files c refusal l. goes_on opts _ (holds built) (goes_on told _ c (stops refusal l))) configured.1) e
      (reading_on (IsOfPackages (load_inputs told)) (λ files. IsLoad (load_inputs told) files) (λ (w : List Package). w) old mid new configured.0 (Err e) h)

  pub packages_loaded : (new : FileState) (world : List Package)
      → AnswersByReading {C = List Package} mid new (IsOfPackages (load_inputs told)) (λ files. IsLoad (load_inputs told) files) (λ w. w) (Ok world)
      → PackagesAnswer old new opts (Ok (record { loaded = world; builtins = config.builtins; numbers = config.numbers }))
  packages_loaded new world h =
      let loaded = reading_on (IsOfPackages (load_inputs told)) (λ files. IsLoad (load_inputs told) files) (λ (w : List Package). w) old mid new configured.0 (Ok world) h in
      (loaded.0, known _ _ old.contents (always_known _ _ old.contents (λ files c l. goes_on opts _ (holds built) (goes_on told _ c (goes_on world _ l (gives (program_with told world) refl)))) configured.1) loaded.1)

-- The passes over the packages refuse what they hold together.

abbrev IsOfLink : Cause → Type 0
IsOfLink refusal = sort_of refusal ≡ of_link

world_only : (entry : List ℕ) → RefusesOnly IsOfLink (LinksWorld entry)
world_only entry =
    then_only IsOfLink
    (then_only IsOfLink (demands_only IsOfLink (λ world. refl))
    (then_only IsOfLink (then_only IsOfLink (demands_only IsOfLink (λ world. refl)) (gives_only IsOfLink))
    (finds_only IsOfLink (λ k refusal u. subst IsOfLink (sym u.refusal_is) refl))))
    (then_only IsOfLink (demands_only IsOfLink (λ k. refl)) (gives_only IsOfLink))

clash_only : (l : Program) (found : Option Clash) (refusal : Cause) → option_map (clash_refusal l) found ≡ Some refusal → IsOfLink refusal
clash_only l None refusal e = cc
clash_only l (Some clash) refusal e = subst IsOfLink (same (clash_refusal l clash) refusal e) refl
  where
    same : (a b : Cause) → (let o : Option Cause = Some a in o) ≡ Some b → a ≡ b
    same a b is = cc

program_only : RefusesOnly IsOfLink LinksProgram
program_only = then_only IsOfLink (demands_only IsOfLink (λ l. refl)) (λ l refusal h. world_only l.entry l.world refusal h)

packages_only : RefusesOnly IsOfLink LinksPackages
packages_only =
    then_only IsOfLink (then_only IsOfLink (demands_only IsOfLink (λ l. refl)) (demands_only IsOfLink (λ l. refl)))
    (then_only IsOfLink (finds_only IsOfLink (λ l refusal is. clash_only l (first_clash l) refusal is))
    (then_only IsOfLink refusals_of_link
    (then_only IsOfLink (demands_only IsOfLink (λ s. refl)) (λ s refusal h. program_only s.program refusal h))))

pub not_linked : {C : Type 0} (opts : LinkOptions) (old new : FileState) (l : Program) (view : C → Linked) (e : Fault Cause)
    → FilesUnchanged old new × IfKnown old.contents (λ files. (answer : Result Linked Cause) → LinksPackages l answer → IsLink files opts answer)
    → Answers (LinksPackages l) view (Err e) → LinkAnswer old new opts (Err e)
not_linked opts old new l view e loaded h =
    refused old new opts (λ s. s ≡ of_link) (λ s a. subst (λ (t : Sort). MayRefuse old.contents opts t) (sym a) tt) (λ path count a. cc) e
    (reading_stopped old new (λ s. s ≡ of_link) (λ s. s ≡ of_link) (λ files. IsLink files opts) (λ files. IsLink files opts) view (λ (k : Linked). k) (λ s a. a) (always old.contents (λ files refusal is. is)) e
    (reading_ends old new (λ s. s ≡ of_link) (LinksPackages l) (λ files. IsLink files opts) view loaded.0
    (λ refusal is. (packages_only l refusal is, subst (λ (t : Sort). IsPure t) (sym (packages_only l refusal is)) tt))
    loaded.1 (Err e) h))

-- The write.

module _ (opts : LinkOptions) (old mid new : FileState) (linked : Linked) (same : FilesUnchanged old mid) (is : IfKnown old.contents (λ files. IsLink files opts (Ok linked))) where
  pub written : (report : Report) → report ≡ report_of linked → WritesWhole {C = Unit {0}} mid new opts.out linked.image (Ok tt) → LinkAnswer old new opts (Ok report)
  written report rep h =
      writing_done (MayRefuse old.contents opts) (λ files. IsLink files opts) opts.out (λ (l : Linked). l.image) report_of old mid new linked report same is rep h

  pub not_written : (e : Fault Cause) → WritesWhole {C = Unit {0}} mid new opts.out linked.image (Err e) → LinkAnswer old new opts (Err e)
  not_written e h =
      writing_failed (MayRefuse old.contents opts) (λ files. IsLink files opts) opts.out (λ (l : Linked). l.image) report_of (Unit {0}) old mid new linked e (λ count. refl) same is h
