-- Answers that say what known files give are those that must come, where files give one thing.
use Rattle.std.proofs.Common.{inl, inr, refl, subst, Ok, Err, List, ℕ}
use Rattle.std.specs.Prelude.{Result}
use Rattle.glk_base.specs.declared.fault.Fault.{Fault}
use Rattle.glk_base.specs.declared.fault.Fault.TheVariants as fault
use Rattle.glk_io.specs.Counts.{Rose}
use Rattle.glk_io.specs.Contents.{Contents, IfKnown}
use Rattle.glk_io.specs.Changes.{FileState, SinkState}
use Rattle.glk_cause.specs.declared.cause.Cause.{Cause}
use Rattle.glk_cause.specs.Sorts.{Sort, by_reads, by_writes, of_file, of_package, of_input, of_config, of_options, of_link, foreign, sort_of}
use Rattle.glk_cause.specs.Chain.{IsOne}
use Rattle.glk_cause.specs.Writing.{AnswersByWriting, OutputPartlyWritten, RefusesToWrite}
use Rattle.glk_cause.specs.Printing.{AnswersByPrinting, OutputPartlyPrinted, RefusesToPrint}
use Rattle.glk_cause.proofs.ReadingLaws.{always, always_known}
use Rattle.glk_tools.specs.MustAnswer.{MustAnswer}

module _ {B : Type 0} (C : Type 0) (S : Contents → Result B Cause → Type 0) (one : IsOne S) (R W : Type 0) where
  -- what must come for one thing must come for the other
  along : (files : Contents) (a b : Result B Cause) (r : Result C (Fault Cause)) → S files a → S files b → MustAnswer R W a r → MustAnswer R W b r
  along files a b r x y h = subst (λ (c : Result B Cause). MustAnswer R W c r) (one files a b x y) h

  no_memory : (given : Result B Cause) → MustAnswer {C = C} R W given (Err fault.OutOfMemory)
  no_memory (Ok b) = λ reads writes. inr refl
  no_memory (Err refusal) = λ reads. inr refl

  read_failed : (given : Result B Cause) (r : Result C (Fault Cause)) → R → MustAnswer R W given r
  read_failed (Ok b) r failed = λ reads writes. absurd (reads failed)
  read_failed (Err refusal) r failed = λ reads. absurd (reads failed)

  refused : (refusal : Cause) (files : Contents) → S files (Err refusal) → (given : Result B Cause) → S files given → MustAnswer {C = C} R W given (Err (fault.Bad refusal))
  refused refusal files is given gives = along files (Err refusal) given (Err (fault.Bad refusal)) is gives (λ reads. inl refl)

  write_failed : (r : Result C (Fault Cause)) (b : B) (files : Contents) → W → S files (Ok b) → (given : Result B Cause) → S files given → MustAnswer R W given r
  write_failed r b files failed is given gives = along files (Ok b) given r is gives (λ reads writes. absurd (writes failed))

  done : (c : C) (b : B) (files : Contents) → S files (Ok b) → (given : Result B Cause) → S files given → MustAnswer R W given (Ok c)
  done c b files is given gives = along files (Ok b) given (Ok c) is gives (λ reads writes. inl refl)

module _ {B C : Type 0} (S : Contents → Result B Cause → Type 0) (one : IsOne S) (old new : FileState) (Al : Sort → Type 0) (out : List ℕ) (bytes : B → List ℕ) (report : B → C) where
  abbrev Must : Result C (Fault Cause) → Type 0
  Must r = IfKnown old.contents (λ files. (given : Result B Cause) → S files given → MustAnswer (Rose old.reads new.reads) (Rose old.writes new.writes) given r)

  pub writing_must : (r : Result C (Fault Cause)) → AnswersByWriting old new Al S out bytes report r → Must r
  writing_must (Ok c) h = always_known _ _ old.contents (λ files w. done C S one _ _ c w.0 files w.1) h.1
  writing_must (Err fault.OutOfMemory) h = always old.contents (λ files given is. no_memory C S one _ _ given)
  writing_must (Err (fault.Bad refusal)) h = go (sort_of refusal) h.1
    where
      go : (s : Sort) → RefusesToWrite old new (OutputPartlyWritten old new S out bytes) (IfKnown old.contents (λ files. S files (Err refusal))) s → Must (Err (fault.Bad refusal))
      go (by_reads path count) k = always old.contents (λ files given is. read_failed C S one _ _ given (Err (fault.Bad refusal)) k.0.rose)
      go (by_writes path count) k = always_known _ _ old.contents (λ files w. write_failed C S one _ _ (Err (fault.Bad refusal)) w.0 files k.0.rose w.1) k.1
      go (of_file path) k = always_known _ _ old.contents (refused C S one _ _ refusal) k.1
      go (of_package path) k = always_known _ _ old.contents (refused C S one _ _ refusal) k.1
      go (of_input path) k = always_known _ _ old.contents (refused C S one _ _ refusal) k.1
      go (of_config path) k = always_known _ _ old.contents (refused C S one _ _ refusal) k.1
      go of_options k = always_known _ _ old.contents (refused C S one _ _ refusal) k.1
      go of_link k = always_known _ _ old.contents (refused C S one _ _ refusal) k.1
      go foreign k = always_known _ _ old.contents (refused C S one _ _ refusal) k.1

module _ {B C : Type 0} (S : Contents → Result B Cause → Type 0) (one : IsOne S) (old new : FileState) (before after : SinkState) (Al : Sort → Type 0) (bytes : B → List ℕ) where
  abbrev MustPrint : Result C (Fault Cause) → Type 0
  MustPrint r = IfKnown old.contents (λ files. (given : Result B Cause) → S files given → MustAnswer (Rose old.reads new.reads) (Rose before.faults after.faults) given r)

  pub printing_must : (r : Result C (Fault Cause)) → AnswersByPrinting old new before after Al S bytes r → MustPrint r
  printing_must (Ok c) h = always_known _ _ old.contents (λ files w. done C S one _ _ c w.0 files w.1) h.2
  printing_must (Err fault.OutOfMemory) h = always old.contents (λ files given is. no_memory C S one _ _ given)
  printing_must (Err (fault.Bad refusal)) h = go (sort_of refusal) h.1
    where
      go : (s : Sort)
          → RefusesToPrint old new before after (OutputPartlyPrinted (record { files = old; before = before; after = after }) S bytes) (IfKnown old.contents (λ files. S files (Err refusal))) s
          → MustPrint (Err (fault.Bad refusal))
      go (by_reads path count) k = always old.contents (λ files given is. read_failed C S one _ _ given (Err (fault.Bad refusal)) k.1.0.rose)
      go (by_writes path count) k = always_known _ _ old.contents (λ files w. write_failed C S one _ _ (Err (fault.Bad refusal)) w.0 files k.1.rose w.1) k.2
      go (of_file path) k = always_known _ _ old.contents (refused C S one _ _ refusal) k.1.1
      go (of_package path) k = always_known _ _ old.contents (refused C S one _ _ refusal) k.1.1
      go (of_input path) k = always_known _ _ old.contents (refused C S one _ _ refusal) k.1.1
      go (of_config path) k = always_known _ _ old.contents (refused C S one _ _ refusal) k.1.1
      go of_options k = always_known _ _ old.contents (refused C S one _ _ refusal) k.1.1
      go of_link k = always_known _ _ old.contents (refused C S one _ _ refusal) k.1.1
      go foreign k = always_known _ _ old.contents (refused C S one _ _ refusal) k.1.1
