-- `dump`: its file is read, made a text, and printed.
use Rattle.std.proofs.Common.{◌≡◌, ◌∙◌, List, ℕ, Ok, Err, Vec, refl, sym, ap, subst}
use Rattle.std.specs.Prelude.{Result}
use Rattle.std.specs.declared.alloc.Global.{Global}
use Rattle.glk_base.specs.declared.fault.Fault.{Fault}
use Rattle.glk_base.specs.declared.fault.Fault.TheVariants as fault
use Rattle.glk_io.specs.Changes.{FileState, SinkState}
use Rattle.glk_cause.specs.declared.cause.Cause.{Cause}
use Rattle.glk_cause.specs.Sorts.{Sort, by_reads, by_writes, of_file, of_package, of_input, of_config, of_options, of_link, foreign, sort_of}
use Rattle.glk_cause.specs.Chain.{stops, goes_on, Answers}
use Rattle.glk_cause.specs.Reading.{AnswersByReading, IsOfPath, IsWhole}
use Rattle.glk_cause.proofs.ChainLaws.{then_one}
use Rattle.glk_cause.proofs.ReadingLaws.{always, always_known, IsPure, reading_stopped, reading_ends}
use Rattle.glk_cause.proofs.PrintingLaws.{printing_stopped, printing_done, printing_failed}
use Rattle.glk_package.specs.declared.refusal.PackageBad.{PackageBad}
use Rattle.glk_package.specs.declared.refusal.PackageBad.TheVariants as bad
use Rattle.glk_tools.specs.Stdout.{stdout, Prints}
use Rattle.glk_package.specs.PackageRefusal.{refusal_of, IsFaultOfFile}
use Rattle.glk_tools.specs.PackageText.{IsPackageText}
use Rattle.glk_tools.specs.Dump.{package_limit, IsTextOf, GivesText, IsOneDump, IsOfPackageFile, PackageAnswer, DumpAllows, DumpAnswer, DumpUnlessIoFails}
use Rattle.glk_tools.proofs.Sections.{one_text}
use Rattle.glk_tools.proofs.MustAnswers.{printing_must}

one_of_bytes : (path file : List ℕ) (a b : Result (List ℕ) Cause) → IsTextOf path file a → IsTextOf path file b → a ≡ b
one_of_bytes path file (Ok a) (Ok b) x y = let e = one_text file (Ok a) (Ok b) x y in cc
one_of_bytes path file (Ok a) (Err b) x y = let e = one_text file (Ok a) (Err y.0) x y.1 in cc
one_of_bytes path file (Err a) (Ok b) x y = let e = one_text file (Err x.0) (Ok b) x.1 y in cc
one_of_bytes path file (Err a) (Err b) x y =
    let e = one_text file (Err x.0) (Err y.0) x.1 y.1 in
    let same : x.0 ≡ y.0 = cc in
    ap (λ r. Err r) (x.2 ∙ ap (refusal_of path) same ∙ sym y.2)

pub one_dump : IsOneDump
one_dump path files = then_one files (λ x y h k. h ∙ sym k) (λ file s. one_of_bytes path file)

-- the file was not read
path_only : (path : List ℕ) (s : Sort) → IsOfPath path s → IsOfPackageFile path s
path_only path (by_reads named count) h = h
path_only path (by_writes named count) h = absurd h
path_only path (of_file named) h = h
path_only path (of_package named) h = absurd h
path_only path (of_input named) h = absurd h
path_only path (of_config named) h = absurd h
path_only path of_options h = absurd h
path_only path of_link h = absurd h
path_only path foreign h = absurd h

pub not_read : (old new : FileState) (path : List ℕ) (e : Fault Cause)
    → AnswersByReading {C = List ℕ} old new (IsOfPath path) (IsWhole path package_limit package_limit) (λ text. text) (Err e)
    → PackageAnswer old new path (Err e)
not_read old new path e h =
    reading_stopped old new (IsOfPath path) (IsOfPackageFile path) (IsWhole path package_limit package_limit) (GivesText path) (λ (t : List ℕ). t) (λ (a : Vec ℕ Global). a.items)
    (path_only path) (always old.contents (λ files refusal is. stops refusal is)) e h

-- its objects have a fault
pub refused : (path file : List ℕ) (broken : PackageBad) (e : Fault Cause) → IsPackageText file (Err broken) → IsFaultOfFile path broken e
    → Answers (IsTextOf path file) (λ (text : Vec ℕ Global). text.items) (Err e)
refused path file broken (fault.Bad refusal) text is = (broken, text, is)
refused path file broken fault.OutOfMemory text is = tt

-- the file was read, and its objects were made this
broken_file : (path : List ℕ) (broken : PackageBad) → IsOfPackageFile path (sort_of (refusal_of path broken)) × IsPure (sort_of (refusal_of path broken))
broken_file path (bad.NotGo member) = (refl, tt)
broken_file path (bad.HeaderMismatch member first here) = (refl, tt)
broken_file path (bad.Malformed member family rule offset) = (refl, tt)

file_only : (path file : List ℕ) (refusal : Cause) → IsTextOf path file (Err refusal) → IsOfPackageFile path (sort_of refusal) × IsPure (sort_of refusal)
file_only path file refusal h = subst (λ (c : Cause). IsOfPackageFile path (sort_of c) × IsPure (sort_of c)) (sym h.2) (broken_file path h.0)

pub made : (old new : FileState) (path file bytes : List ℕ) → bytes ≡ file
    → AnswersByReading {C = List ℕ} old new (IsOfPath path) (IsWhole path package_limit package_limit) (λ t. t) (Ok file)
    → (r : Result (Vec ℕ Global) (Fault Cause)) → Answers (IsTextOf path bytes) (λ text. text.items) r → PackageAnswer old new path r
made old new path file bytes is h r answers =
    let T : List ℕ → Type 0 = λ t. Answers (IsTextOf path t) (λ (text : Vec ℕ Global). text.items) r in
    reading_ends old new (IsOfPackageFile path) (IsTextOf path file) (GivesText path) (λ (a : Vec ℕ Global). a.items) h.0 (file_only path file)
    (always_known _ _ old.contents (λ files read answer p. goes_on file answer read p) h.1) r (subst T is answers)

-- a refusal before the printing
file_allowed : (path : List ℕ) (s : Sort) → IsOfPackageFile path s → DumpAllows path s
file_allowed path (by_reads named count) h = h
file_allowed path (by_writes named count) h = absurd h
file_allowed path (of_file named) h = h
file_allowed path (of_package named) h = h
file_allowed path (of_input named) h = absurd h
file_allowed path (of_config named) h = absurd h
file_allowed path of_options h = absurd h
file_allowed path of_link h = absurd h
file_allowed path foreign h = absurd h

pub stopped : (old new : FileState) (sink : SinkState) (path : List ℕ) (e : Fault Cause) → PackageAnswer old new path (Err e) → DumpAnswer {C = Unit {0}} old new sink sink path (Err e)
stopped old new sink path e h =
    printing_stopped (DumpAllows path) (GivesText path) (λ (a : List ℕ). a) old new sink sink (Unit {0}) (IsOfPackageFile path) (λ (a : Vec ℕ Global). a.items)
    (file_allowed path) (λ named count a. a) refl e h

-- the printing
pub printed : (old new : FileState) (before after : SinkState) (path : List ℕ) (text : Vec ℕ Global) (bytes : List ℕ) → bytes ≡ text.items → PackageAnswer old new path (Ok text)
    → (r : Result (Unit {0}) (Fault Cause)) → Prints before after bytes r → DumpAnswer old new before after path r
printed old new before after path text bytes is h (Ok c) p =
    let P : List ℕ → Type 0 = λ b. Prints before after b (Ok c) in
    printing_done (DumpAllows path) (GivesText path) (λ (a : List ℕ). a) old new before after text.items c h.0 h.1 (subst P is p)
printed old new before after path text bytes is h (Err fault.OutOfMemory) p = (h.0, p)
printed old new before after path text bytes is h (Err (fault.Bad refusal)) p =
    let P : List ℕ → Type 0 = λ b. Prints {C = Unit {0}} before after b (Err (fault.Bad refusal)) in
    let k = subst P is p in
    let Q : Cause → Type 0 = λ r. DumpAnswer {C = Unit {0}} old new before after path (Err (fault.Bad r)) in
    subst Q (sym k.0) (printing_failed (DumpAllows path) (GivesText path) (λ (a : List ℕ). a) old new before after (Unit {0}) text.items stdout (λ count. refl) h.0 h.1 k.1)

pub complete : (old new : FileState) (before after : SinkState) (path : List ℕ) (r : Result (Unit {0}) (Fault Cause)) → DumpAnswer old new before after path r → DumpUnlessIoFails old new before after path r
complete old new before after path r h =
    printing_must (GivesText path) (one_dump path) old new before after (DumpAllows path) (λ (a : List ℕ). a) r h
