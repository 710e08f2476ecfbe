-- What a list of words asks for.
use Rattle.std.specs.Prelude.{◌≡◌, ◌≢◌, ◌⊎◌, ◌+◌, ◌-◌, ◌^◌, ℕ, List, [], ◌∷◌, ◌++◌, if◌then◌else◌, map, min, All, codes, Option, Some, None, Result, Ok, Err, ⊤, Bool, true, false}
use Rattle.std.specs.Borrow.{Bor}
use Rattle.std.specs.Str.{bytes_eq}
use Rattle.glk_base.specs.Flags.{Flagged, plain, end, bad_syntax, flag, flag_of}
use Rattle.glk_base.specs.declared.fault.Fault.{Fault}
use Rattle.glk_base.specs.declared.fault.Fault.TheVariants as fault
use Rattle.glk_words.specs.declared.commands.Command.{Command}
use Rattle.glk_words.specs.declared.commands.Flag.{Flag}
use Rattle.glk_words.specs.declared.command_line.FlagSetting.{FlagSetting as CodeFlagSetting}
use Rattle.glk_words.specs.declared.command_line.Invocation.{Invocation as CodeInvocation}
use Rattle.glk_words.specs.declared.command_line.CommandLine.{CommandLine as CodeCommandLine}
use Rattle.glk_words.specs.declared.command_line.CommandLine.TheVariants as line
use Rattle.glk_words.specs.declared.usage.UsageBad.{UsageBad}
use Rattle.glk_words.specs.declared.usage.Why.{Why}
use Rattle.glk_words.specs.declared.usage.Why.TheVariants as why
use Rattle.glk_words.specs.Values.{found_in, truth_of, number_of}
use Rattle.glk_words.specs.Commands.{commands, flags_of, takes_file, is_truth, accepts}

-- a flag with its value
pub record FlagSetting : Type 0 where
  pub flag : Flag
  pub value : List ℕ

-- a command with its settings in the order of the words, and the file that it works on: nothing where it takes none
pub record Invocation : Type 0 where
  pub command : Command
  pub settings : List FlagSetting
  pub file : List ℕ

pub data CommandLine : Type 0 where
  help : CommandLine
  version : CommandLine
  invocation : Invocation → CommandLine

-- a faulty command line; a number past 2^32 - 1 is given as 2^32 - 1
abbrev pub usage : ℕ → Why → UsageBad
usage n why = record { word = min n (2 ^ 32 - 1); why = why }

-- the words after the flags, the first of them word n: one file, or none
abbrev pub one_file : Command → List FlagSetting → ℕ → List ℕ → List (List ℕ) → Result Invocation UsageBad
one_file c settings n file [] = Ok (record { command = c; settings = settings; file = file })
one_file c settings n file (word ∷ more) = Err (usage (n + 1) why.ExtraWord)

unfoldable pub operands : Command → List FlagSetting → ℕ → List (List ℕ) → Result Invocation UsageBad
operands c settings n [] = if takes_file c then Err (usage n why.MissingFile) else Ok (record { command = c; settings = settings; file = [] })
operands c settings n (word ∷ more) = if takes_file c then one_file c settings n word more else Err (usage n why.ExtraWord)

-- what a word leads to: an end, or further words, with the settings by then and a flag whose value may be pending
pub data Next : Type 0 where
  stop : Result Invocation UsageBad → Next
  on : Option Flag → List FlagSetting → Next

-- word n is a value of the flag
unfoldable pub with_value : Flag → List FlagSetting → ℕ → List ℕ → Next
with_value f settings n value =
    if accepts f value then on None (settings ++ record { flag = f; value = value } ∷ []) else stop (Err (usage n why.BadValue))

-- a truth flag without a value is true; the value of any other is the next word
abbrev pub with_flag : Option Flag → List FlagSetting → ℕ → Option (List ℕ) → Next
with_flag None settings n value = stop (Err (usage n why.UnknownFlag))
with_flag (Some f) settings n (Some value) = with_value f settings n value
with_flag (Some f) settings n None = if is_truth f then with_value f settings n (codes "true") else on (Some f) settings

-- word n, and the words after it; the first plain word ends the flags
abbrev pub with_word : Command → List FlagSetting → ℕ → List ℕ → List (List ℕ) → Flagged → Next
with_word c settings n word more plain = stop (operands c settings n (word ∷ more))
with_word c settings n word more end = stop (operands c settings (n + 1) more)
with_word c settings n word more bad_syntax = stop (Err (usage n why.BadSyntax))
with_word c settings n word more (flag name value) = with_flag (found_in (flags_of c) name) settings n value

abbrev pub next : Command → Option Flag → List FlagSetting → ℕ → List ℕ → List (List ℕ) → Next
next c (Some f) settings n word more = with_value f settings n word
next c None settings n word more = with_word c settings n word more (flag_of word)

abbrev pub follow : Next → (Option Flag → List FlagSetting → Result Invocation UsageBad) → Result Invocation UsageBad
follow (stop answer) rest = answer
follow (on pending settings) rest = rest pending settings

-- the words end with word n - 1
abbrev pub at_end : Command → Option Flag → List FlagSetting → ℕ → Result Invocation UsageBad
at_end c (Some f) settings n = Err (usage n why.MissingValue)
at_end c None settings n = operands c settings n []

-- what the words from word n on ask for
unfoldable pub invocation_from : Command → Option Flag → List FlagSetting → ℕ → List (List ℕ) → Result Invocation UsageBad
invocation_from c pending settings n [] = at_end c pending settings n
invocation_from c pending settings n (word ∷ more) = follow (next c pending settings n word more) (λ p s. invocation_from c p s (n + 1) more)

abbrev pub as_command_line : Result Invocation UsageBad → Result CommandLine UsageBad
as_command_line (Ok i) = Ok (invocation i)
as_command_line (Err bad) = Err bad

abbrev pub of_command : Option Command → List (List ℕ) → Result CommandLine UsageBad
of_command None more = Err (usage 0 why.UnknownCommand)
of_command (Some c) more = as_command_line (invocation_from c None [] 1 more)

-- what the words after the program's name ask for, or the first fault in them
unfoldable pub command_line_of : List (List ℕ) → Result CommandLine UsageBad
command_line_of [] = Err (usage 0 why.NoCommand)
command_line_of (word ∷ more) =
    if bytes_eq word (codes "--help") then Ok help
    else (if bytes_eq word (codes "--version") then Ok version
    else of_command (found_in commands word) more)

-- no setting of the flag
abbrev pub LacksFlag : List FlagSetting → Flag → Type 0
LacksFlag settings f = All (λ s. s.flag ≢ f) settings

-- the last setting of the flag has this value
pub record IsGiven (settings : List FlagSetting) (f : Flag) (value : List ℕ) : Type 0 where
  pub before : List FlagSetting
  pub after : List FlagSetting
  pub parts : settings ≡ before ++ record { flag = f; value = value } ∷ after
  pub last : LacksFlag after f

-- the flag is set
abbrev pub Has : List FlagSetting → Flag → Type 0
Has settings f = (value : List ℕ) × IsGiven settings f value

-- the value of a flag that has this value where it is not set
abbrev pub IsValue : List FlagSetting → Flag → List ℕ → List ℕ → Type 0
IsValue settings f default value = IsGiven settings f value ⊎ (LacksFlag settings f × (value ≡ default))

-- each setting has a value that its flag accepts
abbrev pub AreAccepted : List FlagSetting → Type 0
AreAccepted settings = All (λ s. accepts s.flag s.value ≡ true) settings

-- the value of a truth flag, which is false where it is not set
abbrev pub IsTruth : List FlagSetting → Flag → Bool → Type 0
IsTruth settings f b = ((value : List ℕ) × IsGiven settings f value × (truth_of value ≡ Some b)) ⊎ (LacksFlag settings f × (b ≡ false))

-- the number of a flag that has this number where it is not set
abbrev pub IsNumber : List FlagSetting → Flag → ℕ → ℕ → Type 0
IsNumber settings f default n = ((value : List ℕ) × IsGiven settings f value × (number_of value ≡ Some n)) ⊎ (LacksFlag settings f × (n ≡ default))

-- the path that is a flag's value, where the flag is set
abbrev pub IsPath : List FlagSetting → Flag → Option (List ℕ) → Type 0
IsPath settings f None = LacksFlag settings f
IsPath settings f (Some path) = IsGiven settings f path

-- the value of a flag, where it is set
abbrev pub IsValueOf : List FlagSetting → Flag → Option (Bor (List ℕ)) → Type 0
IsValueOf settings f None = LacksFlag settings f
IsValueOf settings f (Some value) = IsGiven settings f value.now

-- the code's types as what contracts speak of
abbrev pub setting_view : CodeFlagSetting → FlagSetting
setting_view s = record { flag = s.flag; value = s.value.now }

abbrev pub settings_view : List CodeFlagSetting → List FlagSetting
settings_view settings = map setting_view settings

abbrev pub invocation_view : CodeInvocation → Invocation
invocation_view i = record { command = i.command; settings = settings_view i.settings.items; file = i.file.now }

abbrev pub settings_of : CodeInvocation → List FlagSetting
settings_of i = settings_view i.settings.items

abbrev pub command_line_view : CodeCommandLine → CommandLine
command_line_view line.Help = help
command_line_view line.Version = version
command_line_view (line.Invocation i) = invocation (invocation_view i)

-- the settings of a command have values that their flags accept
abbrev pub HasAccepted : CodeCommandLine → Type 0
HasAccepted line.Help = ⊤
HasAccepted line.Version = ⊤
HasAccepted (line.Invocation i) = AreAccepted (settings_of i)

-- why there is no answer: the words are faulty, or out of memory
abbrev pub Fails : {X : Type 0} → Result X UsageBad → Fault UsageBad → Type 0
Fails answer (fault.Bad bad) = answer ≡ Err bad
Fails answer fault.OutOfMemory = ⊤
