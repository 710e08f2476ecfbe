-- What is told is of what is asked for, and there is one answer of what the files tell.
use Rattle.std.proofs.Common.{◌≡◌, ◌∙◌, ℕ, List, [], Option, Some, None, Ok, Err, refl, sym, ap, subst}
use Rattle.std.specs.Prelude.{Result}
use Rattle.std.proofs.Math.Path.{fun_ext}
use Rattle.std.proofs.lemmas.Bool.{cases_order}
use Rattle.std.proofs.Common.{inl, inr}
use Rattle.glk_base.specs.Lines.{lines, line_number, IsFirstBad}
use Rattle.glk_cause.specs.declared.cause.Cause.{Cause}
use Rattle.glk_cause.specs.Chain.{IsOneAt, IsOne}
use Rattle.glk_cause.specs.Reading.{bytes_or}
use Rattle.glk_cause.proofs.ChainLaws.{then_one, gives_one, function_one, then_given, gives_given}
use Rattle.glk_io.specs.Contents.{Contents, file_in}
use Rattle.glk_obj.specs.Numbers.{IsGood as IsNumberLine}
use Rattle.glk_obj.specs.declared.numbers.Numbers.{Numbers}
use Rattle.glk_arena.specs.Builtins.{Builtin, AreListed, IsGoodLine as IsBuiltinLine}
use Rattle.glk_arena.specs.Config.{IsGoodLine as IsListingLine}
use Rattle.glk_arena.proofs.ConfigLemmas.{one_file}
use Rattle.glk_link.specs.declared.options.LinkOptions.{LinkOptions}
use Rattle.glk_link.specs.Config.{LineRule, Saying, config_limit, Parses, bad, good, Tells, AreNumbers, standard_numbers, AreFiles, Listing, TellsFiles, Told, untold, Puts, PutsNumbers, PutsBuiltins, PutsFiles, IsTold}
use Rattle.glk_link.proofs.NumberTables.{numbers_once}
use Rattle.glk_link.proofs.BuiltinLists.{builtins_once}

-- What is put.

-- what a step gave, and how it was put
pub record IsPut {A B C : Type 0} (S : A → Result B Cause → Type 0) (put : A → B → C) (a : A) (c : C) : Type 0 where
  pub given : B
  pub step : S a (Ok given)
  pub is : c ≡ put a given

pub puts_given : {A B C : Type 0} {S : A → Result B Cause → Type 0} {put : A → B → C} (a : A) (c : C) → Puts S put a (Ok c) → IsPut S put a c
puts_given {A} {B} {C} {S} {put} a c h =
    let t = then_given a c h in
    record { given = t.0; step = t.1; is = gives_given {R = λ b d. d ≡ put a b} t.0 c t.2 }

pub puts_one : {A B C : Type 0} {S : A → Result B Cause → Type 0} (put : A → B → C) (a : A) → IsOneAt S a → IsOneAt (Puts S put) a
puts_one {A} {B} {C} {S} put a one = then_one a one (λ b s. gives_one {R = λ x d. d ≡ put a x} b (λ c d e f. e ∙ sym f))

abbrev pub put_numbers : Told → Numbers → Told
put_numbers t table = record t { numbers = table }

abbrev pub put_builtins : Told → List Builtin → Told
put_builtins t list = record t { builtins = list }

abbrev pub put_files : Told → Listing → Told
put_files t listed = record t { listed = listed }

-- what is told, told of these options
pub record IsToldOf (files : Contents) (opts : LinkOptions) (told : Told) : Type 0 where
  pub same : told.opts ≡ opts
  pub listing : TellsFiles files opts.importcfg (Ok told.listed)

pub told_files : (files : Contents) (opts : LinkOptions) (told : Told) → IsTold files opts (Ok told) → IsToldOf files opts told
told_files files opts told h =
    let t = then_given (untold opts) told h in
    let one = puts_given {put = put_numbers} (untold opts) t.0 t.1 in
    let u = then_given t.0 told t.2 in
    let two = puts_given {put = put_builtins} t.0 u.0 u.1 in
    let three = puts_given {put = put_files} u.0 told u.2 in
    let before : u.0.opts ≡ opts = ap (λ (x : Told). x.opts) two.is ∙ ap (λ (x : Told). x.opts) one.is in
    let listed : told.listed ≡ three.given = ap (λ (x : Told). x.listed) three.is in
    record {
      same = ap (λ (x : Told). x.opts) three.is ∙ before;
      listing =
          let at : TellsFiles files opts.importcfg (Ok three.given) = subst (λ (o : LinkOptions). TellsFiles files o.importcfg (Ok three.given)) before three.step in
          subst (λ (l : Listing). TellsFiles files opts.importcfg (Ok l)) (sym listed) at;
    }

-- One answer.

bad_once : (ls : List (List ℕ)) (Good : ℕ → Type 0) (m n : ℕ) → IsFirstBad ls Good m → IsFirstBad ls Good n → m ≡ n
bad_once ls Good m n x y =
    elim (cases_order x.line y.line) [
      | inl same ↦ x.number_is ∙ ap line_number same ∙ sym y.number_is
      | inr (inl less) ↦ absurd (x.bad (y.before x.line less))
      | inr (inr more) ↦ absurd (y.bad (x.before y.line more))
    ]

module _ {A : Type 0} (Good : LineRule) (Says : Saying A) (untold_is : A) (once : (ls : List (List ℕ)) (a b : A) → Says ls a → Says ls b → a ≡ b) where
  parses_one : (path : List ℕ) → IsOne (Parses Good Says path)
  parses_one path text x y (bad m f) (bad n g) = let same = bad_once (lines text) (Good (lines text)) m n f g in cc
  parses_one path text x y (bad m f) (good l all is) = absurd (f.bad (all f.line f.inside))
  parses_one path text x y (good l all is) (bad n g) = absurd (g.bad (all g.line g.inside))
  parses_one path text x y (good l all is) (good k all1 is1) = let same = once (lines text) l k is is1 in ap Ok same

  tells_one : (files : Contents) (config : Option (List ℕ)) (x y : Result A Cause) → Tells Good Says untold_is files config x → Tells Good Says untold_is files config y → x ≡ y
  tells_one files None x y h k = h ∙ sym k
  tells_one files (Some path) x y h k =
      then_one path (function_one (λ p. bytes_or p config_limit config_limit (file_in files p)) path) (λ text read. parses_one path text) x y h k

files_once : (ls : List (List ℕ)) (f g : Listing) → AreFiles ls f → AreFiles ls g → f ≡ g
files_once ls f g is too = fun_ext (λ named. one_file ls _ named (f named) (g named) (is named) (too named))

pub told_one : (files : Contents) → IsOne (IsTold files)
told_one files opts =
    then_one {S = PutsNumbers files} (untold opts) (puts_one put_numbers (untold opts) (tells_one IsNumberLine AreNumbers standard_numbers numbers_once files opts.numbers)) (λ t numbered.
    then_one {S = PutsBuiltins files} t (puts_one put_builtins t (tells_one IsBuiltinLine AreListed [] builtins_once files t.opts.builtin)) (λ u listed.
    puts_one put_files u (tells_one IsListingLine AreFiles (λ named. None) files_once files u.opts.importcfg)))
