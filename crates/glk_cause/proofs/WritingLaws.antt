-- Calls that read files, and then write what these give.
use Rattle.std.proofs.Common.{◌≡◌, refl, sym, ◌∙◌, subst, Ok, Err, List, ℕ}
use Rattle.std.specs.Prelude.{Result}
use Rattle.glk_base.specs.declared.fault.Fault.{Fault}
use Rattle.glk_base.specs.declared.fault.Fault.TheVariants as fault
use Rattle.glk_io.specs.Contents.{Contents, IfKnown}
use Rattle.glk_io.specs.Changes.{FileState, FilesUnchanged, FileWritten, WriteFails}
use Rattle.glk_cause.specs.declared.cause.Cause.{Cause}
use Rattle.glk_cause.specs.Sorts.{Sort, by_reads, by_writes, of_file, of_package, of_input, of_config, of_options, of_link, foreign, sort_of}
use Rattle.glk_cause.specs.Reading.{Refuses, AnswersByReading}
use Rattle.glk_cause.specs.Writing.{WritesWhole, RefusesToWrite, AnswersByWriting}
use Rattle.glk_cause.proofs.ReadingLaws.{always_known, from_before}

-- a call that writes no file has no refusal of a failed write
refuses_before : (old new : FileState) (Partly Holds : Type 0) (s : Sort) → ((path : List ℕ) (count : ℕ) → s ≡ by_writes path count → ⊥) → Refuses old new Holds s → RefusesToWrite old new Partly Holds s
refuses_before old new Partly Holds (by_writes path count) none h = absurd (none path count refl)
refuses_before old new Partly Holds (by_reads path count) none h = h
refuses_before old new Partly Holds (of_file path) none h = h
refuses_before old new Partly Holds (of_package path) none h = h
refuses_before old new Partly Holds (of_input path) none h = h
refuses_before old new Partly Holds (of_config path) none h = h
refuses_before old new Partly Holds of_options none h = h
refuses_before old new Partly Holds of_link none h = h
refuses_before old new Partly Holds foreign none h = h

module _ {B C : Type 0} (Al : Sort → Type 0) (S : Contents → Result B Cause → Type 0) (out : List ℕ) (bytes : B → List ℕ) (report : B → C) where
  -- a refusal before the write is one of the whole
  pub writing_stopped : {D : Type 0} (old new : FileState) (Reads : Sort → Type 0) (v : D → B) → ((s : Sort) → Reads s → Al s) → ((path : List ℕ) (count : ℕ) → Reads (by_writes path count) → ⊥)
      → (e : Fault Cause) → AnswersByReading old new Reads S v (Err e) → AnswersByWriting old new Al S out bytes report (Err e)
  writing_stopped old new Reads v more none (fault.Bad refusal) h =
      (more (sort_of refusal) h.0, refuses_before old new _ _ (sort_of refusal) (λ path count is. none path count (subst Reads is h.0)) h.1)
  writing_stopped old new Reads v more none fault.OutOfMemory h = h

  -- what was given is written
  pub writing_done : (old mid new : FileState) (b : B) (c : C) → FilesUnchanged old mid → IfKnown old.contents (λ files. S files (Ok b)) → c ≡ report b
      → FileWritten mid new out (bytes b) → AnswersByWriting old new Al S out bytes report (Ok c)
  writing_done old mid new b c is gives tells h =
      let k : FileWritten old new out (bytes b) = from_before (λ from. FileWritten from new out (bytes b)) old mid is h in
      (record { reads = k.reads; writes = k.writes }, always_known (λ files. S files (Ok b)) _ old.contents (λ files s. (b, s, k.contents, tells)) gives)

  -- what was given is not written whole
  pub writing_failed : (D : Type 0) (old mid new : FileState) (b : B) (e : Fault Cause) → ((count : ℕ) → Al (by_writes out count)) → FilesUnchanged old mid
      → IfKnown old.contents (λ files. S files (Ok b)) → WritesWhole {C = D} mid new out (bytes b) (Err e) → AnswersByWriting old new Al S out bytes report (Err e)
  writing_failed D old mid new b fault.OutOfMemory may is gives h = h ∙ is
  writing_failed D old mid new b (fault.Bad refusal) may is gives h =
      let k : WriteFails old new out (bytes b) = from_before (λ from. WriteFails from new out (bytes b)) old mid is h.1 in
      let P : Cause → Type 0 = λ r. AnswersByWriting old new Al S out bytes report (Err (fault.Bad r)) in
      subst P (sym h.0) (
        may new.writes,
        (
          record { reads = k.reads; count_is = refl; rose = k.rose },
          always_known (λ files. S files (Ok b)) _ old.contents (λ files s. (b, s, k.contents)) gives,
        ),
      )
