-- When the words of the system can't be had.
use Rattle.std.specs.Prelude.{◌≡◌, ℕ, List, Bool, true, false, if◌then◌else◌, Result, Ok, Err, ⊤}
use Rattle.glk_words.specs.declared.usage.UsageBad.{UsageBad}
use Rattle.glk_words.specs.declared.usage.Why.{Why}
use Rattle.glk_words.specs.declared.usage.Why.TheVariants as why
use Rattle.glk_words.specs.CommandLine.{CommandLine, command_line_of}
use Rattle.glk_messages.specs.declared.outcome.Outcome.{Outcome}
use Rattle.glk_messages.specs.declared.outcome.Outcome.TheVariants as outcome

-- a fault of a word that is there, and not of one that is missing after the last
abbrev pub is_of_word : Why → Bool
is_of_word why.NoCommand = false
is_of_word why.MissingValue = false
is_of_word why.MissingFile = false
is_of_word w = true

-- the fault of the words before, where it is one of a word, else this one
abbrev pub fault_before : Result CommandLine UsageBad → UsageBad → UsageBad
fault_before (Ok line) bad = bad
fault_before (Err earlier) bad = if is_of_word earlier.why then earlier else bad

-- these words were read, and the one with this index could not be: the first fault, from left to right, or out of memory
abbrev pub IsUnreadable : List (List ℕ) → ℕ → Outcome → Type 0
IsUnreadable words index outcome.Done = ⊥
IsUnreadable words index (outcome.Refused refusal) = ⊥
IsUnreadable words index (outcome.Usage bad) =
    bad ≡ fault_before (command_line_of words) (record { word = index; why = why.BadValue })
IsUnreadable words index outcome.OutOfMemory = ⊤

-- the same of some words; without any there may be no memory to read them
abbrev pub AreUnreadable : Outcome → Type 0
AreUnreadable outcome.OutOfMemory = ⊤
AreUnreadable o = (words : List (List ℕ)) × (index : ℕ) × IsUnreadable words index o
