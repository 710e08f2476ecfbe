-- `mkobj`: its text is read, made an archive, and written.
use Rattle.std.proofs.Common.{◌≡◌, ◌∙◌, List, ℕ, Ok, Err, Vec, refl, sym, subst}
use Rattle.std.specs.Prelude.{Result}
use Rattle.std.specs.declared.alloc.Global.{Global}
use Rattle.glk_base.specs.declared.fault.Fault.{Fault}
use Rattle.glk_io.specs.Changes.{FileState}
use Rattle.glk_cause.specs.declared.cause.Cause.{Cause}
use Rattle.glk_cause.specs.Sorts.{Sort, by_reads, by_writes, of_file, of_package, of_input, of_config, of_options, of_link, foreign, sort_of}
use Rattle.glk_cause.specs.Chain.{stops, goes_on, Answers}
use Rattle.glk_cause.specs.Reading.{AnswersByReading, IsOfPath, IsWhole}
use Rattle.glk_cause.specs.Writing.{WritesWhole}
use Rattle.glk_cause.proofs.ChainLaws.{then_one}
use Rattle.glk_cause.proofs.ReadingLaws.{always, always_known, IsPure, reading_stopped, reading_ends}
use Rattle.glk_cause.proofs.WritingLaws.{writing_stopped, writing_done, writing_failed}
use Rattle.glk_tools.specs.TextArchive.{archive_of_text}
use Rattle.glk_tools.specs.declared.text_archive.MakeBad.{MakeBad}
use Rattle.glk_tools.specs.declared.text_archive.MakeBad.TheVariants as bad
use Rattle.glk_tools.specs.Mkobj.{text_limit, refusal_of, with_path, IsArchiveOf, GivesArchive, IsOneArchive, IsOfText, TextAnswer, MkobjAllows, MkobjAnswer, MkobjUnlessIoFails}
use Rattle.glk_tools.proofs.MustAnswers.{writing_must}

pub one_archive : IsOneArchive
one_archive path files = then_one files (λ x y h k. h ∙ sym k) (λ text s x y h k. h ∙ sym k)

-- the file was not read
path_only : (path : List ℕ) (s : Sort) → IsOfPath path s → IsOfText path s
path_only path (by_reads named count) h = h
path_only path (by_writes named count) h = absurd h
path_only path (of_file named) h = h
path_only path (of_package named) h = absurd h
path_only path (of_input named) h = absurd h
path_only path (of_config named) h = absurd h
path_only path of_options h = absurd h
path_only path of_link h = absurd h
path_only path foreign h = absurd h

pub not_read : (old new : FileState) (path : List ℕ) (e : Fault Cause)
    → AnswersByReading {C = List ℕ} old new (IsOfPath path) (IsWhole path text_limit text_limit) (λ text. text) (Err e)
    → TextAnswer old new path (Err e)
not_read old new path e h =
    reading_stopped old new (IsOfPath path) (IsOfText path) (IsWhole path text_limit text_limit) (GivesArchive path) (λ (t : List ℕ). t) (λ (a : Vec ℕ Global). a.items)
    (path_only path) (always old.contents (λ files refusal is. stops refusal is)) e h

-- the file was read, and its text was made this
broken_text : (path : List ℕ) (broken : MakeBad) → IsOfText path (sort_of (refusal_of path broken)) × IsPure (sort_of (refusal_of path broken))
broken_text path (bad.Text b) = (refl, tt)
broken_text path (bad.Big b) = (refl, tt)

text_only : (path text : List ℕ) (refusal : Cause) → IsArchiveOf path text (Err refusal) → IsOfText path (sort_of refusal) × IsPure (sort_of refusal)
text_only path text refusal h = go (archive_of_text text) h
  where
    go : (m : Result (List ℕ) MakeBad) → (let r : Result (List ℕ) Cause = Err refusal in r) ≡ with_path path m → IsOfText path (sort_of refusal) × IsPure (sort_of refusal)
    go (Ok archive) e = absurd (let no : ⊥ = cc in no)
    go (Err broken) e =
        let same : refusal_of path broken ≡ refusal = cc in
        subst (λ (c : Cause). IsOfText path (sort_of c) × IsPure (sort_of c)) same (broken_text path broken)

pub made : (old new : FileState) (path text bytes : List ℕ) → bytes ≡ text
    → AnswersByReading {C = List ℕ} old new (IsOfPath path) (IsWhole path text_limit text_limit) (λ t. t) (Ok text)
    → (r : Result (Vec ℕ Global) (Fault Cause)) → Answers (IsArchiveOf path bytes) (λ archive. archive.items) r → TextAnswer old new path r
made old new path text bytes is h r answers =
    let T : List ℕ → Type 0 = λ t. Answers (IsArchiveOf path t) (λ (archive : Vec ℕ Global). archive.items) r in
    reading_ends old new (IsOfText path) (IsArchiveOf path text) (GivesArchive path) (λ (a : Vec ℕ Global). a.items) h.0 (text_only path text)
    (always_known _ _ old.contents (λ files read answer p. goes_on text answer read p) h.1) r (subst T is answers)

-- a refusal before the write
text_allowed : (path out : List ℕ) (s : Sort) → IsOfText path s → MkobjAllows path out s
text_allowed path out (by_reads named count) h = h
text_allowed path out (by_writes named count) h = absurd h
text_allowed path out (of_file named) h = h
text_allowed path out (of_package named) h = absurd h
text_allowed path out (of_input named) h = h
text_allowed path out (of_config named) h = absurd h
text_allowed path out of_options h = absurd h
text_allowed path out of_link h = absurd h
text_allowed path out foreign h = absurd h

pub stopped : (old new : FileState) (path out : List ℕ) (e : Fault Cause) → TextAnswer old new path (Err e) → MkobjAnswer old new path out (Err e)
stopped old new path out e h =
    writing_stopped (MkobjAllows path out) (GivesArchive path) out (λ (a : List ℕ). a) (λ (a : List ℕ). tt {0}) old new (IsOfText path) (λ (a : Vec ℕ Global). a.items)
    (text_allowed path out) (λ named count a. a) e h

-- the write
pub written : (old mid new : FileState) (path out : List ℕ) (archive : Vec ℕ Global) (bytes : List ℕ) → bytes ≡ archive.items → TextAnswer old mid path (Ok archive)
    → (r : Result (Unit {0}) (Fault Cause)) → WritesWhole mid new out bytes r → MkobjAnswer old new path out r
written old mid new path out archive bytes is h (Ok c) w =
    let W : List ℕ → Type 0 = λ b. WritesWhole mid new out b (Ok c) in
    writing_done (MkobjAllows path out) (GivesArchive path) out (λ (a : List ℕ). a) (λ (a : List ℕ). tt {0}) old mid new archive.items c h.0 h.1 refl (subst W is w)
written old mid new path out archive bytes is h (Err e) w =
    let W : List ℕ → Type 0 = λ b. WritesWhole {C = Unit {0}} mid new out b (Err e) in
    writing_failed (MkobjAllows path out) (GivesArchive path) out (λ (a : List ℕ). a) (λ (a : List ℕ). tt {0}) (Unit {0}) old mid new archive.items e (λ count. refl) h.0 h.1 (subst W is w)

pub complete : (old new : FileState) (path out : List ℕ) (r : Result (Unit {0}) (Fault Cause)) → MkobjAnswer old new path out r → MkobjUnlessIoFails old new path r
complete old new path out r h =
    writing_must (GivesArchive path) (one_archive path) old new (MkobjAllows path out) out (λ (a : List ℕ). a) (λ (a : List ℕ). tt {0}) r h
