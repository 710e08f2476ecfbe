-- How an answer ends the program, and the exit status.
use Rattle.std.specs.Prelude.{ℕ, Result, Ok, Err}
use Rattle.glk_base.specs.declared.fault.Fault.{Fault}
use Rattle.glk_base.specs.declared.fault.Fault.TheVariants as fault
use Rattle.glk_cause.specs.declared.cause.Cause.{Cause}
use Rattle.glk_messages.specs.declared.outcome.Outcome.{Outcome}
use Rattle.glk_messages.specs.declared.outcome.Outcome.TheVariants as outcome

-- the outcome of a command that was refused, or out of memory
abbrev pub outcome_of_fault : Fault Cause → Outcome
outcome_of_fault (fault.Bad refusal) = outcome.Refused refusal
outcome_of_fault fault.OutOfMemory = outcome.OutOfMemory

-- the outcome of an answer
abbrev pub outcome_of : {T : Type 0} → Result T (Fault Cause) → Outcome
outcome_of (Ok done) = outcome.Done
outcome_of (Err stop) = outcome_of_fault stop

-- the program's exit status
abbrev pub status_of : Outcome → ℕ
status_of outcome.Done = 0
status_of (outcome.Refused refusal) = 1
status_of (outcome.Usage bad) = 2
status_of outcome.OutOfMemory = 3
