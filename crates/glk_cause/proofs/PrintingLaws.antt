-- Calls that read files, and then print what these give.
use Rattle.std.proofs.Common.{◌≡◌, refl, subst, Ok, Err, List, ℕ}
use Rattle.std.specs.Prelude.{Result}
use Rattle.glk_base.specs.declared.fault.Fault.{Fault}
use Rattle.glk_base.specs.declared.fault.Fault.TheVariants as fault
use Rattle.glk_io.specs.Contents.{Contents, IfKnown}
use Rattle.glk_io.specs.Changes.{FileState, SinkState, FilesUnchanged, SinkUnchanged, SinkAppends, SinkFails}
use Rattle.glk_cause.specs.declared.cause.Cause.{Cause}
use Rattle.glk_cause.specs.declared.cause.Cause.TheVariants as cause
use Rattle.glk_cause.specs.Sorts.{Sort, by_reads, by_writes, of_file, of_package, of_input, of_config, of_options, of_link, foreign, sort_of}
use Rattle.glk_cause.specs.Reading.{Refuses, AnswersByReading}
use Rattle.glk_cause.specs.Printing.{RefusesToPrint, AnswersByPrinting}
use Rattle.glk_cause.proofs.ReadingLaws.{always_known}

-- a call that prints nothing has no refusal of a failed write
refuses_before : (old new : FileState) (before after : SinkState) (Partly Holds : Type 0) (s : Sort) → ((path : List ℕ) (count : ℕ) → s ≡ by_writes path count → ⊥)
    → SinkUnchanged before after → Refuses old new Holds s → RefusesToPrint old new before after Partly Holds s
refuses_before old new before after Partly Holds (by_writes path count) none silent h = absurd (none path count refl)
refuses_before old new before after Partly Holds (by_reads path count) none silent h = (silent, h)
refuses_before old new before after Partly Holds (of_file path) none silent h = (silent, h)
refuses_before old new before after Partly Holds (of_package path) none silent h = (silent, h)
refuses_before old new before after Partly Holds (of_input path) none silent h = (silent, h)
refuses_before old new before after Partly Holds (of_config path) none silent h = (silent, h)
refuses_before old new before after Partly Holds of_options none silent h = (silent, h)
refuses_before old new before after Partly Holds of_link none silent h = (silent, h)
refuses_before old new before after Partly Holds foreign none silent h = (silent, h)

module _ {B : Type 0} (Al : Sort → Type 0) (S : Contents → Result B Cause → Type 0) (bytes : B → List ℕ) (old new : FileState) (before after : SinkState) where
  -- a refusal before the printing is one of the whole
  pub printing_stopped : (C : Type 0) {D : Type 0} (Reads : Sort → Type 0) (v : D → B) → ((s : Sort) → Reads s → Al s) → ((path : List ℕ) (count : ℕ) → Reads (by_writes path count) → ⊥)
      → SinkUnchanged before after → (e : Fault Cause) → AnswersByReading old new Reads S v (Err e) → AnswersByPrinting {C = C} old new before after Al S bytes (Err e)
  printing_stopped C Reads v more none silent (fault.Bad refusal) h =
      (more (sort_of refusal) h.0, refuses_before old new before after _ _ (sort_of refusal) (λ path count is. none path count (subst Reads is h.0)) silent h.1)
  printing_stopped C Reads v more none silent fault.OutOfMemory h = (h, silent)

  -- what was given is printed
  pub printing_done : {C : Type 0} (b : B) (c : C) → FilesUnchanged old new → IfKnown old.contents (λ files. S files (Ok b)) → SinkAppends before after (bytes b)
      → AnswersByPrinting old new before after Al S bytes (Ok c)
  printing_done b c is gives h = (is, h.faults, always_known (λ files. S files (Ok b)) _ old.contents (λ files s. (b, s, h.bytes_are)) gives)

  -- what was given is not printed whole
  pub printing_failed : (C : Type 0) (b : B) (path : List ℕ) → ((count : ℕ) → Al (by_writes path count)) → FilesUnchanged old new
      → IfKnown old.contents (λ files. S files (Ok b)) → SinkFails before after (bytes b)
      → AnswersByPrinting {C = C} old new before after Al S bytes (Err (fault.Bad (cause.WriteFault path after.faults)))
  printing_failed C b path may is gives h = (
    may after.faults,
    (
      is,
      record { count_is = refl; rose = h.rose },
      always_known (λ files. S files (Ok b)) _ old.contents (λ files s. (b, s, h.prefix)) gives,
    ),
  )
