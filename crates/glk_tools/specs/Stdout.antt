-- What is printed on standard output.
use Rattle.std.specs.Prelude.{◌≡◌, ℕ, List, codes, Result, Ok, Err}
use Rattle.glk_base.specs.declared.fault.Fault.{Fault}
use Rattle.glk_base.specs.declared.fault.Fault.TheVariants as fault
use Rattle.glk_cause.specs.declared.cause.Cause.{Cause}
use Rattle.glk_cause.specs.declared.cause.Cause.TheVariants as cause
use Rattle.glk_io.specs.Changes.{SinkState, SinkUnchanged, SinkAppends, SinkFails}

-- how standard output is named
abbrev pub stdout : List ℕ
stdout = codes "stdout"

-- what a call answers that prints a text: the text is at the end of standard output, or a prefix of it where a write failed
abbrev pub Prints : {C : Type 0} → SinkState → SinkState → List ℕ → Result C (Fault Cause) → Type 0
Prints before after text (Ok done) = SinkAppends before after text
Prints before after text (Err fault.OutOfMemory) = SinkUnchanged before after
Prints before after text (Err (fault.Bad refusal)) = (refusal ≡ cause.WriteFault stdout after.faults) × SinkFails before after text
