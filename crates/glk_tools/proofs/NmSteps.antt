-- `nm`: its file is read, and the symbols of its image are printed.
use Rattle.std.proofs.Common.{◌≡◌, ◌∙◌, List, ℕ, Ok, Err, refl, sym, ap, subst, inl, inr}
use Rattle.std.specs.Prelude.{Result}
use Rattle.glk_base.specs.declared.fault.Fault.{Fault}
use Rattle.glk_base.specs.declared.fault.Fault.TheVariants as fault
use Rattle.glk_io.specs.Contents.{IfKnown}
use Rattle.glk_io.specs.Changes.{FileState, SinkState}
use Rattle.glk_cause.specs.declared.cause.Cause.{Cause}
use Rattle.glk_cause.specs.declared.cause.Cause.TheVariants as cause
use Rattle.glk_cause.specs.Sorts.{Sort, by_reads, by_writes, of_file, of_package, of_input, of_config, of_options, of_link, foreign}
use Rattle.glk_cause.specs.Chain.{stops, goes_on}
use Rattle.glk_cause.specs.Reading.{AnswersByReading, IsOfPath, IsWhole}
use Rattle.glk_cause.proofs.ChainLaws.{then_one}
use Rattle.glk_cause.proofs.ReadingLaws.{always, always_known, reading_stopped}
use Rattle.glk_cause.proofs.PrintingLaws.{printing_stopped, printing_done, printing_failed}
use Rattle.glk_nm.specs.declared.options.NmOptions.{NmOptions}
use Rattle.glk_nm.proofs.ListingLemmas.{one_text}
use Rattle.glk_tools.specs.Stdout.{stdout}
use Rattle.glk_tools.specs.Images.{image_limit}
use Rattle.glk_tools.proofs.ImageLaws.{one_refusal, no_image}
use Rattle.glk_tools.specs.Nm.{IsSymbolsOf, GivesSymbols, IsOneListing, NmAllows, ListsSymbols, NmAnswer, NmUnlessIoFails}
use Rattle.glk_tools.proofs.MustAnswers.{printing_must}

one_of_bytes : (opts : NmOptions) (path file : List ℕ) (a b : Result (List ℕ) Cause) → IsSymbolsOf opts path file a → IsSymbolsOf opts path file b → a ≡ b
one_of_bytes opts path file (Ok a) (Ok b) x y = ap (λ t. Ok t) (one_text opts file a b x.1 y.1)
one_of_bytes opts path file (Ok a) (Err b) x y = absurd (no_image path file b x.0 y)
one_of_bytes opts path file (Err a) (Ok b) x y = absurd (no_image path file a y.0 x)
one_of_bytes opts path file (Err a) (Err b) x y = ap (λ r. Err r) (one_refusal path file a b x y)

pub one_listing : IsOneListing
one_listing opts path files = then_one files (λ x y h k. h ∙ sym k) (λ file s. one_of_bytes opts path file)

-- the file was not read
path_allowed : (path : List ℕ) (s : Sort) → IsOfPath path s → NmAllows path s
path_allowed path (by_reads named count) h = h
path_allowed path (by_writes named count) h = absurd h
path_allowed path (of_file named) h = h
path_allowed path (of_package named) h = absurd h
path_allowed path (of_input named) h = absurd h
path_allowed path (of_config named) h = absurd h
path_allowed path of_options h = absurd h
path_allowed path of_link h = absurd h
path_allowed path foreign h = absurd h

whole_stops : (opts : NmOptions) (path : List ℕ) (old new : FileState) (e : Fault Cause)
    → AnswersByReading {C = List ℕ} old new (IsOfPath path) (IsWhole path image_limit image_limit) (λ text. text) (Err e)
    → AnswersByReading {C = List ℕ} old new (IsOfPath path) (GivesSymbols opts path) (λ text. text) (Err e)
whole_stops opts path old new e h =
    reading_stopped old new (IsOfPath path) (IsOfPath path) (IsWhole path image_limit image_limit) (GivesSymbols opts path) (λ (t : List ℕ). t) (λ (t : List ℕ). t)
    (λ s k. k) (always old.contents (λ files refusal is. stops refusal is)) e h

pub not_read : (old new : FileState) (sink : SinkState) (opts : NmOptions) (path : List ℕ) (e : Fault Cause)
    → AnswersByReading {C = List ℕ} old new (IsOfPath path) (IsWhole path image_limit image_limit) (λ text. text) (Err e)
    → NmAnswer {C = Unit {0}} old new sink sink opts path (Err e)
not_read old new sink opts path e h =
    printing_stopped (NmAllows path) (GivesSymbols opts path) (λ (t : List ℕ). t) old new sink sink (Unit {0}) (IsOfPath path) (λ (t : List ℕ). t)
    (path_allowed path) (λ named count a. a) refl e (whole_stops opts path old new e h)

-- the file was read
module _ (old new : FileState) (before after : SinkState) (opts : NmOptions) (path file : List ℕ)
    (h : AnswersByReading {C = List ℕ} old new (IsOfPath path) (IsWhole path image_limit image_limit) (λ t. t) (Ok file)) where
  then_gives : (answer : Result (List ℕ) Cause) → IsSymbolsOf opts path file answer → IfKnown old.contents (λ files. GivesSymbols opts path files answer)
  then_gives answer is = always_known _ _ old.contents (λ files read. goes_on file answer read is) h.1

  -- and its symbols were listed
  listed : (r : Result (Unit {0}) (Fault Cause)) → ListsSymbols before after opts path file r → NmAnswer old new before after opts path r
  listed (Ok c) k =
      printing_done (NmAllows path) (GivesSymbols opts path) (λ (t : List ℕ). t) old new before after k.1.0 c h.0
      (then_gives (Ok k.1.0) (k.0, k.1.1)) k.1.2
  listed (Err fault.OutOfMemory) k = (h.0, k)
  listed (Err (fault.Bad refusal)) (inl k) =
      let text = k.1.0 in
      let Q : Cause → Type 0 = λ r. NmAnswer {C = Unit {0}} old new before after opts path (Err (fault.Bad r)) in
      subst Q (sym k.1.2.0)
      (printing_failed (NmAllows path) (GivesSymbols opts path) (λ (t : List ℕ). t) old new before after (Unit {0}) text stdout (λ count. refl) h.0
      (then_gives (Ok text) (k.0, k.1.1)) k.1.2.1)
  listed (Err (fault.Bad refusal)) (inr k) =
      let no = k.0 in
      let Q : Cause → Type 0 = λ r. NmAnswer {C = Unit {0}} old new before after opts path (Err (fault.Bad r)) in
      let gives : IfKnown old.contents (λ files. GivesSymbols opts path files (Err (cause.ElfBad path no.rule no.offset))) =
      then_gives (Err (cause.ElfBad path no.rule no.offset)) (record { rule = no.rule; offset = no.offset; broken = no.broken; refusal_is = refl }) in
      subst Q (sym no.refusal_is) (refl, (k.1, (h.0, gives)))

pub listed_of : (old new : FileState) (before after : SinkState) (opts : NmOptions) (path file bytes : List ℕ) → bytes ≡ file
    → AnswersByReading {C = List ℕ} old new (IsOfPath path) (IsWhole path image_limit image_limit) (λ t. t) (Ok file)
    → (r : Result (Unit {0}) (Fault Cause)) → ListsSymbols before after opts path bytes r → NmAnswer old new before after opts path r
listed_of old new before after opts path file bytes is h r k =
    let P : List ℕ → Type 0 = λ b. ListsSymbols before after opts path b r in
    listed old new before after opts path file h r (subst P is k)

pub complete : (old new : FileState) (before after : SinkState) (opts : NmOptions) (path : List ℕ) (r : Result (Unit {0}) (Fault Cause))
    → NmAnswer old new before after opts path r → NmUnlessIoFails old new before after opts path r
complete old new before after opts path r h =
    printing_must (GivesSymbols opts path) (one_listing opts path) old new before after (NmAllows path) (λ (t : List ℕ). t) r h
