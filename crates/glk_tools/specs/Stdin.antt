-- Standard input, read to its end.
use Rattle.std.specs.Prelude.{◌≡◌, ◌⊎◌, ℕ, ◌^◌, List, [], codes, Some, IfSome, Result, Ok, Err}
use Rattle.glk_base.specs.declared.fault.Fault.{Fault}
use Rattle.glk_base.specs.declared.fault.Fault.TheVariants as fault
use Rattle.glk_io.specs.Counts.{Rose}
use Rattle.glk_io.specs.Changes.{SourceState}
use Rattle.glk_cause.specs.declared.cause.Cause.{Cause}
use Rattle.glk_cause.specs.declared.cause.Cause.TheVariants as cause
use Rattle.glk_cause.specs.Reading.{bytes_or}

-- how standard input is named
abbrev pub stdin : List ℕ
stdin = codes "stdin"

-- how long standard input may be
abbrev pub input_limit : ℕ
input_limit = 2 ^ 24

-- what standard input with these bytes gives: all of them, or that they are too many
abbrev pub IsWholeInput : List ℕ → Result (List ℕ) Cause → Type 0
IsWholeInput held answer = answer ≡ bytes_or stdin input_limit input_limit (Some held)

-- a read of standard input failed
pub record InputFails (from to : SourceState) (refusal : Cause) : Type 0 where
  pub refusal_is : refusal ≡ cause.ReadFault stdin to.faults
  pub rose : Rose from.faults to.faults

-- no read failed, and what was known to be left gives this
pub record InputGives (from to : SourceState) (answer : Result (List ℕ) Cause) : Type 0 where
  pub faults : to.faults ≡ from.faults
  pub gives : IfSome from.left (λ held. IsWholeInput held answer)

-- nothing is left of what was known
abbrev pub IsReadToEnd : SourceState → SourceState → Type 0
IsReadToEnd from to = IfSome from.left (λ held. to.left ≡ Some [])

-- what a call answers that reads standard input to its end
abbrev pub ReadsInput : SourceState → SourceState → Result (List ℕ) (Fault Cause) → Type 0
ReadsInput from to (Ok bytes) = InputGives from to (Ok bytes) × IsReadToEnd from to
ReadsInput from to (Err fault.OutOfMemory) = to.faults ≡ from.faults
ReadsInput from to (Err (fault.Bad refusal)) =
    InputFails from to refusal ⊎ ((refusal ≡ cause.FileTooLong stdin input_limit) × InputGives from to (Err refusal))
