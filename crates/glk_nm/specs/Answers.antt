-- What `nm` answers.
use Rattle.std.specs.Prelude.{ℕ, List, Result, Ok, Err}
use Rattle.glk_base.specs.declared.fault.Fault.{Fault}
use Rattle.glk_base.specs.declared.fault.Fault.TheVariants as fault
use Rattle.glk_io.specs.Changes.{SinkState, SinkUnchanged, SinkAppends, SinkFails}
use Rattle.glk_nm.specs.Listing.{IsNmText}
use Rattle.glk_nm.specs.declared.options.NmOptions.{NmOptions}

-- the same answer, where a call may also be out of memory
abbrev pub with_fault : {T E : Type 0} → Result T E → Result T (Fault E)
with_fault (Ok done) = Ok done
with_fault (Err failed) = Err (fault.Bad failed)

-- the text of a file is at the end of the sink, or a prefix of it where a write failed, or nothing
abbrev pub WritesSymbols : {T E : Type 0} → SinkState → SinkState → NmOptions → List ℕ → Result T (Fault E) → Type 0
WritesSymbols old new opts file (Ok done) = (text : List ℕ) × IsNmText opts file text × SinkAppends old new text
WritesSymbols old new opts file (Err (fault.Bad failed)) = (text : List ℕ) × IsNmText opts file text × SinkFails old new text
WritesSymbols old new opts file (Err fault.OutOfMemory) = SinkUnchanged old new
