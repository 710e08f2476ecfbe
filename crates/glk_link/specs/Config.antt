-- The configuration files of a link, and what they tell: the numbers of the kinds of relocations, the builtin list, and the
-- file of each package that is listed; or why one is refused.
use Rattle.std.specs.Prelude.{◌≡◌, ◌⊎◌, ℕ, ◌^◌, List, [], length, map, Option, Some, None, Result, Ok, Err}
use Rattle.glk_cause.specs.declared.cause.Cause.{Cause}
use Rattle.glk_cause.specs.declared.cause.Cause.TheVariants as cause
use Rattle.glk_base.specs.Lines.{lines, AllGood, IsFirstBad}
use Rattle.glk_io.specs.Contents.{Contents}
use Rattle.glk_cause.specs.Sorts.{Sort, by_reads, of_file, of_config}
use Rattle.glk_cause.specs.Chain.{Then, Gives}
use Rattle.glk_base.specs.declared.fault.Fault.{Fault}
use Rattle.glk_io.specs.Changes.{FileState}
use Rattle.glk_cause.specs.Reading.{AnswersByReading, IsWhole}
use Rattle.glk_obj.specs.declared.numbers.Numbers.{Numbers}
use Rattle.glk_obj.specs.Numbers.{kinds, standard_number, IsListed, HasNoOthers, IsGood as IsNumberLine}
use Rattle.glk_arena.specs.Builtins.{Builtin, AreListed, IsGoodLine as IsBuiltinLine}
use Rattle.glk_arena.specs.declared.config.Config.{Config}
use Rattle.glk_arena.specs.ConfigViews.{file_in}
use Rattle.glk_arena.specs.Config.{IsLastFile, IsGoodLine as IsListingLine}
use Rattle.glk_link.specs.declared.options.LinkOptions.{LinkOptions}

-- One configuration file.

-- the largest number of bytes of a configuration file that golink reads
abbrev pub config_limit : ℕ
config_limit = 2 ^ 24

-- which lines of a file are good, and what good lines say
abbrev pub LineRule : Type 1
LineRule = List (List ℕ) → ℕ → Type 0

abbrev pub Saying : Type 0 → Type 1
Saying A = List (List ℕ) → A → Type 0

-- what the lines of a text say, where each is good; else the first bad one is reported
pub data Parses {A : Type 0} (Good : LineRule) (Says : Saying A) (path text : List ℕ) : Result A Cause → Type 0 where
  bad : (number : ℕ) → IsFirstBad (lines text) (Good (lines text)) number → Parses Good Says path text (Err (cause.ConfigBad path number))
  good : (said : A) → AllGood (lines text) (Good (lines text)) → Says (lines text) said → Parses Good Says path text (Ok said)

-- the file is read whole, and then its lines; where there is no file, this is told
abbrev pub Tells : {A : Type 0} → LineRule → Saying A → A → Contents → Option (List ℕ) → Result A Cause → Type 0
Tells Good Says untold files None answer = answer ≡ Ok untold
Tells Good Says untold files (Some path) answer = Then (λ p. IsWhole p config_limit config_limit files) (Parses Good Says path) path answer

-- refusals of a configuration file
abbrev pub IsOfConfig : Option (List ℕ) → Sort → Type 0
IsOfConfig config (by_reads path count) = config ≡ Some path
IsOfConfig config (of_file path) = config ≡ Some path
IsOfConfig config (of_config path) = config ≡ Some path
IsOfConfig config sort = ⊥

-- what a call answers that reads one
abbrev pub ConfigAnswer : {A C : Type 0} → FileState → FileState → (Contents → Option (List ℕ) → Result A Cause → Type 0) → (C → A) → Option (List ℕ) → Result C (Fault Cause) → Type 0
ConfigAnswer old new S view config result = AnswersByReading old new (IsOfConfig config) (λ files. S files config) view result

-- The three files.

-- the table has just the numbers that the lines give
pub record AreNumbers (ls : List (List ℕ)) (table : Numbers) : Type 0 where
  pub listed : IsListed ls table
  pub only : HasNoOthers ls table

abbrev pub standard_numbers : Numbers
standard_numbers = record { numbers = map standard_number kinds }

-- the numbers of kinds; without a file they are the standard ones
abbrev pub TellsNumbers : Contents → Option (List ℕ) → Result Numbers Cause → Type 0
TellsNumbers files config answer = Tells IsNumberLine AreNumbers standard_numbers files config answer

-- the builtin list; without a file it is empty
abbrev pub TellsBuiltins : Contents → Option (List ℕ) → Result (List Builtin) Cause → Type 0
TellsBuiltins files config answer = Tells IsBuiltinLine AreListed [] files config answer

-- the file of each package that is listed
abbrev pub Listing : Type 0
Listing = List ℕ → Option (List ℕ)

abbrev pub AreFiles : Saying Listing
AreFiles ls listed = (named : List ℕ) → IsLastFile ls (length ls) named (listed named)

-- the listed files: of each package the last line that lists it counts; without a file no package is listed
abbrev pub TellsFiles : Contents → Option (List ℕ) → Result Listing Cause → Type 0
TellsFiles files config answer = Tells IsListingLine AreFiles (λ named. None) files config answer

-- a configuration lists no package
abbrev pub ListsNothing : Config → Type 0
ListsNothing config = (named : List ℕ) → file_in config named ≡ None

-- All of them, one after the other.

-- what is asked for, and what the files of it tell
pub record Told : Type 0 where
  pub opts : LinkOptions
  pub numbers : Numbers
  pub builtins : List Builtin
  pub listed : Listing

abbrev pub untold : LinkOptions → Told
untold opts = record { opts = opts; numbers = standard_numbers; builtins = []; listed = λ named. None }

-- a step, and what it gives is put to what it got
abbrev pub Puts : {A B C : Type 0} → (A → Result B Cause → Type 0) → (A → B → C) → A → Result C Cause → Type 0
Puts S put a answer = Then S (Gives (λ b c. c ≡ put a b)) a answer

abbrev pub PutsNumbers : Contents → Told → Result Told Cause → Type 0
PutsNumbers files = Puts (λ (t : Told). TellsNumbers files t.opts.numbers) (λ (t : Told) (table : Numbers). record t { numbers = table })

abbrev pub PutsBuiltins : Contents → Told → Result Told Cause → Type 0
PutsBuiltins files = Puts (λ (t : Told). TellsBuiltins files t.opts.builtin) (λ (t : Told) (list : List Builtin). record t { builtins = list })

abbrev pub PutsFiles : Contents → Told → Result Told Cause → Type 0
PutsFiles files = Puts (λ (t : Told). TellsFiles files t.opts.importcfg) (λ (t : Told) (listed : Listing). record t { listed = listed })

-- what the files of `-numbers`, `-builtin` and `-importcfg` tell, in this order, or the first refusal
abbrev pub IsTold : Contents → LinkOptions → Result Told Cause → Type 0
IsTold files opts answer = Then (PutsNumbers files) (Then (PutsBuiltins files) (PutsFiles files)) (untold opts) answer

-- one of these files
abbrev pub IsConfigPath : LinkOptions → List ℕ → Type 0
IsConfigPath opts path = (opts.numbers ≡ Some path) ⊎ ((opts.builtin ≡ Some path) ⊎ (opts.importcfg ≡ Some path))

-- refusals of one of them
abbrev pub IsOfTold : LinkOptions → Sort → Type 0
IsOfTold opts (by_reads path count) = IsConfigPath opts path
IsOfTold opts (of_file path) = IsConfigPath opts path
IsOfTold opts (of_config path) = IsConfigPath opts path
IsOfTold opts sort = ⊥
