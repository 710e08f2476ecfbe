-- Each configuration file has an answer: what it tells, or its first bad line.
use Rattle.std.proofs.Common.{◌≡◌, ℕ, List, [], Option, Some, None, Ok, Err, ◌⊎◌, inl, inr, refl}
use Rattle.std.specs.Prelude.{Result}
use Rattle.glk_base.specs.Lines.{lines, AllGood, IsFirstBad}
use Rattle.glk_cause.specs.declared.cause.Cause.{Cause}
use Rattle.glk_cause.specs.declared.cause.Cause.TheVariants as cause
use Rattle.glk_cause.specs.Chain.{IsSomeAt, Gives}
use Rattle.glk_cause.specs.Reading.{bytes_or}
use Rattle.glk_cause.proofs.ChainLaws.{then_some, function_some, gives_some}
use Rattle.glk_io.specs.Contents.{Contents, file_in}
use Rattle.glk_obj.specs.Numbers.{IsGood as IsNumberLine}
use Rattle.glk_obj.specs.declared.numbers.Numbers.{Numbers}
use Rattle.glk_arena.specs.Builtins.{Builtin, AreListed, IsGoodLine as IsBuiltinLine}
use Rattle.glk_arena.specs.Config.{IsGoodLine as IsListingLine, ConfigLines, IsSomeConfig}
use Rattle.glk_link.specs.declared.options.LinkOptions.{LinkOptions}
use Rattle.glk_link.specs.Config.{LineRule, Saying, config_limit, Parses, bad, good, Tells, AreNumbers, standard_numbers, AreFiles, Listing, Told, untold, Puts, PutsNumbers, PutsBuiltins, PutsFiles, IsTold}
use Rattle.glk_link.proofs.NumberTables.{number_lines, numbers_some}
use Rattle.glk_link.proofs.BuiltinLists.{builtin_lines, builtins_some}

-- lines of which some are bad, or which say something
abbrev HasSaying : {A : Type 0} → LineRule → Saying A → Type 0
HasSaying {A} Good Says = (ls : List (List ℕ)) → ((said : A) × AllGood ls (Good ls) × Says ls said) ⊎ ((number : ℕ) × IsFirstBad ls (Good ls) number)

module _ {A : Type 0} (Good : LineRule) (Says : Saying A) (untold_is : A) (some : HasSaying Good Says) where
  parses_some : (path text : List ℕ) → IsSomeAt (Parses Good Says path) text
  parses_some path text = answer (some (lines text))
    where
      answer : ((said : A) × AllGood (lines text) (Good (lines text)) × Says (lines text) said) ⊎ ((number : ℕ) × IsFirstBad (lines text) (Good (lines text)) number) → IsSomeAt (Parses Good Says path) text
      answer (inl h) = (Ok h.0, good h.0 h.1 h.2)
      answer (inr (number, first)) = (Err (cause.ConfigBad path number), bad number first)

  tells_some : (files : Contents) (config : Option (List ℕ)) → (answer : Result A Cause) × Tells Good Says untold_is files config answer
  tells_some files None = (Ok untold_is, refl)
  tells_some files (Some path) =
      then_some path (function_some (λ p. bytes_or p config_limit config_limit (file_in files p)) path) (λ text read. parses_some path text)

-- What the lines of each file say.

numbers_say : HasSaying IsNumberLine AreNumbers
numbers_say ls = by (number_lines ls)
  where
    by : AllGood ls (IsNumberLine ls) ⊎ ((number : ℕ) × IsFirstBad ls (IsNumberLine ls) number)
        → ((said : Numbers) × AllGood ls (IsNumberLine ls) × AreNumbers ls said) ⊎ ((number : ℕ) × IsFirstBad ls (IsNumberLine ls) number)
    by (inl all) = let k = numbers_some ls all in inl (k.0, all, k.1)
    by (inr first) = inr first

builtins_say : HasSaying IsBuiltinLine AreListed
builtins_say ls = by (builtin_lines ls)
  where
    by : AllGood ls (IsBuiltinLine ls) ⊎ ((number : ℕ) × IsFirstBad ls (IsBuiltinLine ls) number)
        → ((said : List Builtin) × AllGood ls (IsBuiltinLine ls) × AreListed ls said) ⊎ ((number : ℕ) × IsFirstBad ls (IsBuiltinLine ls) number)
    by (inl all) = let k = builtins_some ls all in inl (k.0, all, k.1)
    by (inr first) = inr first

-- what a step gives can be put
pub puts_some : {A B C : Type 0} {S : A → Result B Cause → Type 0} (put : A → B → C) (a : A) → IsSomeAt S a → IsSomeAt (Puts S put) a
puts_some {A} {B} {C} {S} put a some = then_some a some (λ b s. gives_some {R = λ x c. c ≡ put a x} b (put a b, refl))

-- The configuration of packages is parsed from a text.
module _ (config : IsSomeConfig) where
  files_some : (path text : List ℕ) → IsSomeAt (Parses IsListingLine AreFiles path) text
  files_some path text = answer (config text)
    where
      answer : ((listed : Listing) × ConfigLines (lines text) listed) ⊎ ((number : ℕ) × IsFirstBad (lines text) (IsListingLine (lines text)) number) → IsSomeAt (Parses IsListingLine AreFiles path) text
      answer (inl (listed, is)) = (Ok listed, good listed is.good is.files)
      answer (inr (number, first)) = (Err (cause.ConfigBad path number), bad number first)

  listing_some : (files : Contents) (path : Option (List ℕ)) → (answer : Result Listing Cause) × Tells IsListingLine AreFiles (λ named. None) files path answer
  listing_some files None = (Ok (λ named. None), refl)
  listing_some files (Some path) =
      then_some path (function_some (λ p. bytes_or p config_limit config_limit (file_in files p)) path) (λ text read. files_some path text)

  pub told_some : (files : Contents) (opts : LinkOptions) → IsSomeAt (IsTold files) opts
  told_some files opts =
      then_some {S = PutsNumbers files} (untold opts) (puts_some (λ (t : Told) (table : Numbers). let u : Told = record t { numbers = table } in u) (untold opts) (tells_some IsNumberLine AreNumbers standard_numbers numbers_say files opts.numbers)) (λ t numbered.
      then_some {S = PutsBuiltins files} t (puts_some (λ (u : Told) (list : List Builtin). let v : Told = record u { builtins = list } in v) t (tells_some IsBuiltinLine AreListed [] builtins_say files t.opts.builtin)) (λ u listed.
      puts_some (λ (v : Told) (files_of : Listing). let w : Told = record v { listed = files_of } in w) u (listing_some files u.opts.importcfg)))
