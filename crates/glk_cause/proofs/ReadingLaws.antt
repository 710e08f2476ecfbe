-- Calls that read files, one after the other, and then write one.
use Rattle.std.proofs.Common.{subst, Option, Some, None, Ok, Err}
use Rattle.std.specs.Prelude.{Result, ⊤}
use Rattle.glk_base.specs.declared.fault.Fault.{Fault}
use Rattle.glk_base.specs.declared.fault.Fault.TheVariants as fault
use Rattle.glk_io.specs.Contents.{Contents, IfKnown}
use Rattle.glk_io.specs.Changes.{FileState, FilesUnchanged}
use Rattle.glk_cause.specs.declared.cause.Cause.{Cause}
use Rattle.glk_cause.specs.Sorts.{Sort, by_reads, by_writes, of_file, of_package, of_input, of_config, of_options, of_link, foreign, sort_of}
use Rattle.glk_cause.specs.Chain.{Answers}
use Rattle.glk_cause.specs.Reading.{Refuses, AnswersByReading}

-- facts of known contents
pub known : (P Q : Contents → Type 0) (before : Option Contents) → IfKnown before (λ files. P files → Q files) → IfKnown before P → IfKnown before Q
known P Q None f h = tt
known P Q (Some files) f h = f h

-- and of all of them
pub always_known : (P Q : Contents → Type 0) (before : Option Contents) → ((files : Contents) → P files → Q files) → IfKnown before P → IfKnown before Q
always_known P Q None f h = tt
always_known P Q (Some files) f h = f files h

pub always : {P : Contents → Type 0} (before : Option Contents) → ((files : Contents) → P files) → IfKnown before P
always None f = tt
always (Some files) f = f files

-- a sort of refusals that come of no failed call
abbrev pub IsPure : Sort → Type 0
IsPure (by_reads path count) = ⊥
IsPure (by_writes path count) = ⊥
IsPure sort = ⊤

pub refuses_pure : (old new : FileState) (Holds : Type 0) (s : Sort) → IsPure s → FilesUnchanged old new → Holds → Refuses old new Holds s
refuses_pure old new Holds (by_reads path count) pure is h = absurd pure
refuses_pure old new Holds (by_writes path count) pure is h = absurd pure
refuses_pure old new Holds (of_file path) pure is h = (is, h)
refuses_pure old new Holds (of_package path) pure is h = (is, h)
refuses_pure old new Holds (of_input path) pure is h = (is, h)
refuses_pure old new Holds (of_config path) pure is h = (is, h)
refuses_pure old new Holds of_options pure is h = (is, h)
refuses_pure old new Holds of_link pure is h = (is, h)
refuses_pure old new Holds foreign pure is h = (is, h)

-- a refusal says less where it holds of less
pub refuses_weaker : (old new : FileState) (P Q : Type 0) (s : Sort) → (P → Q) → Refuses old new P s → Refuses old new Q s
refuses_weaker old new P Q (by_reads path count) f h = h
refuses_weaker old new P Q (by_writes path count) f h = (h.0, f h.1)
refuses_weaker old new P Q (of_file path) f h = (h.0, f h.1)
refuses_weaker old new P Q (of_package path) f h = (h.0, f h.1)
refuses_weaker old new P Q (of_input path) f h = (h.0, f h.1)
refuses_weaker old new P Q (of_config path) f h = (h.0, f h.1)
refuses_weaker old new P Q of_options f h = (h.0, f h.1)
refuses_weaker old new P Q of_link f h = (h.0, f h.1)
refuses_weaker old new P Q foreign f h = (h.0, f h.1)

-- a step that refuses is one of a longer step that refuses so
module _ {B C D E : Type 0} (old new : FileState) (Al More : Sort → Type 0) (S : Contents → Result B Cause → Type 0) (T : Contents → Result D Cause → Type 0) (v : C → B) (w : E → D) where
  pub reading_stopped : ((s : Sort) → Al s → More s) → IfKnown old.contents (λ files. (refusal : Cause) → S files (Err refusal) → T files (Err refusal))
      → (e : Fault Cause) → AnswersByReading old new Al S v (Err e) → AnswersByReading old new More T w (Err e)
  reading_stopped more leads (fault.Bad refusal) h =
      (more (sort_of refusal) h.0, refuses_weaker old new _ _ (sort_of refusal) (λ k. known _ _ old.contents (always_known _ _ old.contents (λ files f. f refusal) leads) k) h.1)
  reading_stopped more leads fault.OutOfMemory h = h

-- after what was read there is a step that reads nothing
module _ {D E : Type 0} (old new : FileState) (Al : Sort → Type 0) (U : Result D Cause → Type 0) (T : Contents → Result D Cause → Type 0) (w : E → D) where
  pub reading_ends : FilesUnchanged old new → ((refusal : Cause) → U (Err refusal) → Al (sort_of refusal) × IsPure (sort_of refusal))
      → IfKnown old.contents (λ files. (answer : Result D Cause) → U answer → T files answer)
      → (r : Result E (Fault Cause)) → Answers U w r → AnswersByReading old new Al T w r
  reading_ends is only leads (Ok c) h = (is, always_known _ _ old.contents (λ files f. f (Ok (w c)) h) leads)
  reading_ends is only leads (Err (fault.Bad refusal)) h =
      ((only refusal h).0, refuses_pure old new _ (sort_of refusal) (only refusal h).1 is (always_known _ _ old.contents (λ files f. f (Err refusal) h) leads))
  reading_ends is only leads (Err fault.OutOfMemory) h = is

-- what follows a call that changed nothing changes files from where they were before
pub from_before : (P : FileState → Type 0) (old mid : FileState) → FilesUnchanged old mid → P mid → P old
from_before P old mid is h = subst P is h

module _ {B C : Type 0} (Al : Sort → Type 0) (S : Contents → Result B Cause → Type 0) (v : C → B) (old mid new : FileState) where
  pub reading_on : FilesUnchanged old mid → (r : Result C (Fault Cause)) → AnswersByReading mid new Al S v r → AnswersByReading old new Al S v r
  reading_on is r h = from_before (λ from. AnswersByReading from new Al S v r) old mid is h
