-- The values of settings are values that their flags take.
use Rattle.std.proofs.Common.{◌≡◌, ℕ, ◌+◌, Bool, List, [], ◌∷◌, ◌++◌, Option, Some, None, Result, Ok, Err, true, false, refl, if◌then◌else◌, subst}
use Rattle.std.proofs.lemmas.List.Elements.{All-append, All-cons, All-nil}
use Rattle.std.specs.Str.{bytes_eq}
use Rattle.std.specs.Prelude.{codes, ⊤}
use Rattle.glk_base.specs.Flags.{Flagged, plain, end, bad_syntax, flag, flag_of}
use Rattle.glk_words.specs.declared.commands.Command.{Command}
use Rattle.glk_words.specs.declared.commands.Flag.{Flag}
use Rattle.glk_words.specs.declared.usage.UsageBad.{UsageBad}
use Rattle.glk_words.specs.declared.command_line.CommandLine.{CommandLine as CodeCommandLine}
use Rattle.glk_words.specs.declared.command_line.CommandLine.TheVariants as line
use Rattle.glk_words.specs.Values.{found_in}
use Rattle.glk_words.specs.Commands.{commands, flags_of, takes_file, is_truth, accepts}
use Rattle.glk_words.specs.CommandLine.{FlagSetting, Invocation, CommandLine, help, version, invocation, Next, stop, on, one_file, operands, with_value, with_flag, with_word, next, follow, at_end, invocation_from, as_command_line, of_command, command_line_of, AreAccepted, command_line_view, HasAccepted}

-- an answer whose settings have such values
abbrev Fine : Result Invocation UsageBad → Type 0
Fine (Ok t) = AreAccepted t.settings
Fine (Err bad) = ⊤

-- what a word leads to, where all is so by then
abbrev FineNext : Next → Type 0
FineNext (stop answer) = Fine answer
FineNext (on pending settings) = AreAccepted settings

abbrev FineDemand : Result CommandLine UsageBad → Type 0
FineDemand (Ok (invocation t)) = AreAccepted t.settings
FineDemand (Ok help) = ⊤
FineDemand (Ok version) = ⊤
FineDemand (Err bad) = ⊤

fine_if : (b : Bool) (one other : Result Invocation UsageBad) → Fine one → Fine other → Fine (if b then one else other)
fine_if true one other yes_ no_ = yes_
fine_if false one other yes_ no_ = no_

fine_one : (c : Command) (settings : List FlagSetting) (n : ℕ) (file : List ℕ) (more : List (List ℕ)) → AreAccepted settings → Fine (one_file c settings n file more)
fine_one c settings n file [] accepted = accepted
fine_one c settings n file (word ∷ more) accepted = tt

fine_operands : (c : Command) (settings : List FlagSetting) (n : ℕ) (words : List (List ℕ)) → AreAccepted settings → Fine (operands c settings n words)
unfolding operands
fine_operands c settings n [] accepted = fine_if (takes_file c) _ _ tt accepted
fine_operands c settings n (word ∷ more) accepted = fine_if (takes_file c) _ _ (fine_one c settings n word more accepted) tt

fine_when : (b : Bool) (one other : Next) → (b ≡ true → FineNext one) → FineNext other → FineNext (if b then one else other)
fine_when true one other yes_ no_ = yes_ refl
fine_when false one other yes_ no_ = no_

one_more : (f : Flag) (settings : List FlagSetting) (value : List ℕ) → AreAccepted settings → accepts f value ≡ true → AreAccepted (settings ++ record { flag = f; value = value } ∷ [])
one_more f settings value accepted takes =
    let P : FlagSetting → Type 0 = λ s. accepts s.flag s.value ≡ true in
    All-append P settings (record { flag = f; value = value } ∷ []) accepted (All-cons P (record { flag = f; value = value }) [] takes (All-nil P))

fine_value : (f : Flag) (settings : List FlagSetting) (n : ℕ) (value : List ℕ) → AreAccepted settings → FineNext (with_value f settings n value)
unfolding with_value
fine_value f settings n value accepted = fine_when (accepts f value) _ _ (λ takes. one_more f settings value accepted takes) tt

fine_truth : (b : Bool) (f : Flag) (settings : List FlagSetting) (n : ℕ) → AreAccepted settings → FineNext (if b then with_value f settings n (codes "true") else on (Some f) settings)
fine_truth true f settings n accepted = fine_value f settings n (codes "true") accepted
fine_truth false f settings n accepted = accepted

fine_flag : (f : Option Flag) (settings : List FlagSetting) (n : ℕ) (value : Option (List ℕ)) → AreAccepted settings → FineNext (with_flag f settings n value)
fine_flag None settings n value accepted = tt
fine_flag (Some f) settings n (Some value) accepted = fine_value f settings n value accepted
fine_flag (Some f) settings n None accepted = fine_truth (is_truth f) f settings n accepted

fine_word : (c : Command) (settings : List FlagSetting) (n : ℕ) (word : List ℕ) (more : List (List ℕ)) (f : Flagged) → AreAccepted settings → FineNext (with_word c settings n word more f)
fine_word c settings n word more plain accepted = fine_operands c settings n (word ∷ more) accepted
fine_word c settings n word more end accepted = fine_operands c settings (n + 1) more accepted
fine_word c settings n word more bad_syntax accepted = tt
fine_word c settings n word more (flag name value) accepted = fine_flag (found_in (flags_of c) name) settings n value accepted

fine_next : (c : Command) (pending : Option Flag) (settings : List FlagSetting) (n : ℕ) (word : List ℕ) (more : List (List ℕ)) → AreAccepted settings → FineNext (next c pending settings n word more)
fine_next c (Some f) settings n word more accepted = fine_value f settings n word accepted
fine_next c None settings n word more accepted = fine_word c settings n word more (flag_of word) accepted

fine_end : (c : Command) (pending : Option Flag) (settings : List FlagSetting) (n : ℕ) → AreAccepted settings → Fine (at_end c pending settings n)
fine_end c (Some f) settings n accepted = tt
fine_end c None settings n accepted = fine_operands c settings n [] accepted

fine_follow : (x : Next) (rest : Option Flag → List FlagSetting → Result Invocation UsageBad) → FineNext x → ((w : Option Flag) (g : List FlagSetting) → AreAccepted g → Fine (rest w g)) → Fine (follow x rest)
fine_follow (stop answer) rest fine later = fine
fine_follow (on pending settings) rest fine later = later pending settings fine

fine_asked : (words : List (List ℕ)) (c : Command) (pending : Option Flag) (settings : List FlagSetting) (n : ℕ) → AreAccepted settings → Fine (invocation_from c pending settings n words)
unfolding invocation_from
fine_asked [] c pending settings n accepted = fine_end c pending settings n accepted
fine_asked (word ∷ more) c pending settings n accepted =
    fine_follow (next c pending settings n word more) _ (fine_next c pending settings n word more accepted) (λ w g h. fine_asked more c w g (n + 1) h)

fine_demand : (answer : Result Invocation UsageBad) → Fine answer → FineDemand (as_command_line answer)
fine_demand (Ok t) fine = fine
fine_demand (Err bad) fine = tt

fine_command : (c : Option Command) (more : List (List ℕ)) → FineDemand (of_command c more)
fine_command None more = tt
fine_command (Some c) more = fine_demand (invocation_from c None [] 1 more) (fine_asked more c None [] 1 (All-nil (λ s. accepts s.flag s.value ≡ true)))

fine_either : (b : Bool) (one other : Result CommandLine UsageBad) → FineDemand one → FineDemand other → FineDemand (if b then one else other)
fine_either true one other yes_ no_ = yes_
fine_either false one other yes_ no_ = no_

fine_words : (words : List (List ℕ)) → FineDemand (command_line_of words)
unfolding command_line_of
fine_words [] = tt
fine_words (word ∷ more) =
    fine_either (bytes_eq word (codes "--help")) _ _ tt (fine_either (bytes_eq word (codes "--version")) _ _ tt (fine_command (found_in commands word) more))

-- what words ask for has such values
pub accepted : (words : List (List ℕ)) (o : CodeCommandLine) → command_line_of words ≡ Ok (command_line_view o) → HasAccepted o
accepted words line.Help is = tt
accepted words line.Version is = tt
accepted words (line.Invocation r) is = subst FineDemand is (fine_words words)
