-- The configuration files of a link, read one after the other.
use Rattle.std.proofs.Common.{◌≡◌, ◌∙◌, inl, inr, ℕ, List, Option, Some, Ok, Err, refl, subst}
use Rattle.std.specs.Prelude.{Result}
use Rattle.glk_base.specs.declared.fault.Fault.{Fault}
use Rattle.glk_base.specs.declared.fault.Fault.TheVariants as fault
use Rattle.glk_cause.specs.declared.cause.Cause.{Cause}
use Rattle.glk_cause.specs.Chain.{stops, goes_on, gives}
use Rattle.glk_cause.specs.Reading.{AnswersByReading}
use Rattle.glk_cause.specs.Sorts.{Sort, by_reads, by_writes, of_file, of_package, of_input, of_config, of_options, of_link, foreign}
use Rattle.glk_cause.proofs.ReadingLaws.{known, always, always_known, reading_stopped, reading_on}
use Rattle.glk_io.specs.Changes.{FileState, FilesUnchanged}
use Rattle.glk_io.specs.Contents.{Contents, IfKnown}
use Rattle.glk_obj.specs.declared.numbers.Numbers.{Numbers}
use Rattle.glk_arena.specs.Builtins.{Builtin}
use Rattle.glk_arena.specs.ConfigViews.{file_in}
use Rattle.glk_arena.specs.declared.config.Config.{Config}
use Rattle.glk_link.specs.Answers.{ToldAnswer}
use Rattle.glk_link.specs.Config.{Listing, TellsNumbers, TellsBuiltins, TellsFiles, ConfigAnswer, IsOfConfig, Told, untold, IsTold, IsConfigPath, IsOfTold}
use Rattle.glk_link.proofs.ToldLaws.{put_numbers, put_builtins, put_files}
use Rattle.glk_link.specs.Outputs.{told_by}
use Rattle.glk_link.specs.declared.config_files.ConfigFiles.{ConfigFiles}
use Rattle.glk_link.specs.declared.options.LinkOptions.{LinkOptions}

-- one of the files may be named
one_of_told : (opts : LinkOptions) (config : Option (List ℕ)) → ((path : List ℕ) → config ≡ Some path → IsConfigPath opts path) → (s : Sort) → IsOfConfig config s → IsOfTold opts s
one_of_told opts config is (by_reads path count) h = is path h
one_of_told opts config is (by_writes path count) h = absurd h
one_of_told opts config is (of_file path) h = is path h
one_of_told opts config is (of_package path) h = absurd h
one_of_told opts config is (of_input path) h = absurd h
one_of_told opts config is (of_config path) h = is path h
one_of_told opts config is of_options h = absurd h
one_of_told opts config is of_link h = absurd h
one_of_told opts config is foreign h = absurd h

-- facts of known contents, together
both_known : (P Q : Contents → Type 0) (before : Option Contents) → IfKnown before P → IfKnown before Q → IfKnown before (λ files. P files × Q files)
both_known P Q before h k = known P (λ files. P files × Q files) before (always_known Q (λ files. P files → P files × Q files) before (λ files q p. (p, q)) k) h

-- the first file is refused
pub no_numbers : (old new : FileState) (opts : LinkOptions) (e : Fault Cause) → ConfigAnswer {C = Numbers} old new TellsNumbers (λ (t : Numbers). t) opts.numbers (Err e) → ToldAnswer old new opts (Err e)
no_numbers old new opts e h =
    reading_stopped old new (IsOfConfig opts.numbers) (IsOfTold opts) (λ files. TellsNumbers files opts.numbers) (λ files. IsTold files opts) (λ (t : Numbers). t) (told_by opts)
    (one_of_told opts opts.numbers (λ path is. inl is)) (always old.contents (λ files refusal k. stops refusal (stops refusal k))) e h

-- the numbers are told
module _ (opts : LinkOptions) (old mid : FileState) (table : Numbers) (numbered : FilesUnchanged old mid × IfKnown old.contents (λ files. TellsNumbers files opts.numbers (Ok table))) where
  abbrev one : Told
  one = put_numbers (untold opts) table

  -- the second file is refused
  pub no_builtins : (new : FileState) (e : Fault Cause) → ConfigAnswer mid new TellsBuiltins (λ (list : List Builtin). list) opts.builtin (Err e) → ToldAnswer old new opts (Err e)
  no_builtins new e h =
      reading_stopped old new (IsOfConfig opts.builtin) (IsOfTold opts) (λ files. TellsBuiltins files opts.builtin) (λ files. IsTold files opts) (λ (list : List Builtin). list) (told_by opts)
      (one_of_told opts opts.builtin (λ path is. inr (inl is)))
      (always_known _ _ old.contents (λ files n refusal k. goes_on one _ (goes_on table _ n (gives one refl)) (stops refusal (stops refusal k))) numbered.1) e
      (reading_on (IsOfConfig opts.builtin) (λ files. TellsBuiltins files opts.builtin) (λ (list : List Builtin). list) old mid new numbered.0 (Err e) h)

  -- the builtin list is told
  module _ (late : FileState) (list : List Builtin) (built : FilesUnchanged mid late × IfKnown mid.contents (λ files. TellsBuiltins files opts.builtin (Ok list))) where
    abbrev two : Told
    two = put_builtins one list

    there : FilesUnchanged old late
    there = built.0 ∙ numbered.0

    built_before : IfKnown old.contents (λ files. TellsBuiltins files opts.builtin (Ok list))
    built_before = subst (λ (s : FileState). IfKnown s.contents (λ files. TellsBuiltins files opts.builtin (Ok list))) numbered.0 built.1

    told_both : IfKnown old.contents (λ files. TellsNumbers files opts.numbers (Ok table) × TellsBuiltins files opts.builtin (Ok list))
    told_both = both_known _ _ old.contents numbered.1 built_before

    -- the third file is refused
    pub no_files : (new : FileState) (e : Fault Cause) → ConfigAnswer {C = Config} late new TellsFiles file_in opts.importcfg (Err e) → ToldAnswer old new opts (Err e)
    no_files new e h =
        reading_stopped old new (IsOfConfig opts.importcfg) (IsOfTold opts) (λ files. TellsFiles files opts.importcfg) (λ files. IsTold files opts) file_in (told_by opts)
        (one_of_told opts opts.importcfg (λ path is. inr (inr is)))
        (always_known _ _ old.contents (λ files n refusal k.
        goes_on one _ (goes_on table _ n.0 (gives one refl)) (goes_on two _ (goes_on list _ n.1 (gives two refl)) (stops refusal k))) told_both) e
        (reading_on (IsOfConfig opts.importcfg) (λ files. TellsFiles files opts.importcfg) file_in old late new there (Err e) h)

    -- all is told
    pub all_told : (new : FileState) (listed : Listing) → FilesUnchanged late new × IfKnown late.contents (λ files. TellsFiles files opts.importcfg (Ok listed))
        → FilesUnchanged old new × IfKnown old.contents (λ files. IsTold files opts (Ok (put_files two listed)))
    all_told new listed h =
        let listed_before : IfKnown old.contents (λ files. TellsFiles files opts.importcfg (Ok listed)) = subst (λ (s : FileState). IfKnown s.contents (λ files. TellsFiles files opts.importcfg (Ok listed))) there h.1 in
        let three : Told = put_files two listed in (
          h.0 ∙ there,
          always_known _ _ old.contents (λ files n.
              goes_on one _ (goes_on table _ n.0.0 (gives one refl)) (goes_on two _ (goes_on list _ n.0.1 (gives two refl)) (goes_on listed _ n.1 (gives three refl))))
              (both_known _ _ old.contents told_both listed_before),
        )
