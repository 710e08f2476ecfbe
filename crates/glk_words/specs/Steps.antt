-- What the steps of the parser have done by then: words for the contracts of its private functions.
use Rattle.std.specs.Prelude.{◌≡◌, ℕ, List, [], drop, String, Option, Some, None, Result, Ok, Err, ⊤}
use Rattle.std.specs.Borrow.{Bor}
use Rattle.std.specs.declared.alloc.Global.{Global}
use Rattle.glk_base.specs.declared.fault.Fault.{Fault}
use Rattle.glk_base.specs.declared.fault.Fault.TheVariants as fault
use Rattle.glk_words.specs.declared.commands.Command.{Command}
use Rattle.glk_words.specs.declared.commands.Flag.{Flag}
use Rattle.glk_words.specs.declared.command_line.FlagSetting.{FlagSetting as CodeFlagSetting}
use Rattle.glk_words.specs.declared.command_line.Invocation.{Invocation as CodeInvocation}
use Rattle.glk_words.specs.declared.usage.UsageBad.{UsageBad}
use Rattle.glk_words.specs.Values.{found_in}
use Rattle.glk_words.specs.Commands.{flags_of}
use Rattle.glk_words.specs.Words.{texts_of}
use Rattle.glk_words.specs.CommandLine.{Invocation, Next, stop, on, operands, with_value, with_flag, invocation_from, settings_view, invocation_view}

-- a value as a text
abbrev pub value_view : Option (Bor (List ℕ)) → Option (List ℕ)
value_view None = None
value_view (Some value) = Some value.now

-- what the words after the command, which is word 0, ask of it
abbrev pub after_command : Command → List (String Global) → Result Invocation UsageBad
after_command c words = invocation_from c None [] 1 (drop 1 (texts_of words))

-- word n is a value of the flag
abbrev pub after_value : Flag → List CodeFlagSetting → ℕ → List ℕ → Next
after_value f settings n value = with_value f (settings_view settings) n value

-- word n is a flag of this name
abbrev pub after_flag : Command → List CodeFlagSetting → ℕ → List ℕ → Option (Bor (List ℕ)) → Next
after_flag c settings n name value = with_flag (found_in (flags_of c) name) (settings_view settings) n (value_view value)

-- the flags end before word n
abbrev pub after_flags : Command → List CodeFlagSetting → ℕ → List (String Global) → Result Invocation UsageBad
after_flags c settings n words = operands c (settings_view settings) n (drop n (texts_of words))

-- the words ask for this
abbrev pub Asks : Result Invocation UsageBad → CodeInvocation → Type 0
Asks answer i = answer ≡ Ok (invocation_view i)

-- with this value the settings become these
abbrev pub AddsValue : Flag → List CodeFlagSetting → List CodeFlagSetting → ℕ → List ℕ → Type 0
AddsValue f old new n value = after_value f old n value ≡ on None (settings_view new)

-- with this flag the settings become these, and the value of a flag may be pending
abbrev pub ReadsFlag : Command → List CodeFlagSetting → List CodeFlagSetting → ℕ → List ℕ → Option (Bor (List ℕ)) → Option Flag → Type 0
ReadsFlag c old new n name value pending = after_flag c old n name value ≡ on pending (settings_view new)

-- the words end with a fault, or out of memory
abbrev pub Stops : Next → Fault UsageBad → Type 0
Stops next (fault.Bad bad) = next ≡ stop (Err bad)
Stops next fault.OutOfMemory = ⊤
