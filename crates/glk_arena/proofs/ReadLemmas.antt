-- The reads of a wave, one after the other.
use Rattle.std.proofs.Common.{◌≡◌, ◌<◌, ◌≤◌, ◌+◌, ◌-◌, ◌++◌, ◌∷◌, [], ℕ, true, false, List, length, drop, get_or, refl, ap, sym, subst, add-one, suc, drop-cons, Option, Some, None, Result, Ok, Err, append_assoc}
use Rattle.std.specs.Option.{unwrap_or}
use Rattle.std.specs.Result.{IsErrAnd}
use Rattle.std.specs.Str.{bytes_eq}
use Rattle.std.proofs.Math.ListN.{drop_of_length-le}
use Rattle.std.proofs.lemmas.List.{append-nil}
use Rattle.glk_base.specs.Limits.{file_limit}
use Rattle.glk_base.specs.declared.fault.Fault.{Fault}
use Rattle.glk_io.specs.Contents.{Contents, IfKnown}
use Rattle.glk_io.specs.Changes.{FileState}
use Rattle.glk_cause.specs.declared.cause.Cause.{Cause}
use Rattle.glk_cause.specs.Sorts.{Sort, by_reads, by_writes, of_file, of_package, of_input, of_config, of_options, of_link, foreign}
use Rattle.glk_cause.specs.Chain.{ends, refuses, refuses_later, takes, stops, goes_on, gives}
use Rattle.glk_cause.specs.Reading.{IsOfPath, IsWhole, ReadsWhole}
use Rattle.glk_cause.proofs.ChainLaws.{exits}
use Rattle.glk_cause.proofs.ReadingLaws.{always, always_known, reading_stopped}
use Rattle.glk_arena.specs.Waves.{LoadInputs, ReadsOne, Reads, IsOfPackages, file_of, main_package}
use Rattle.glk_arena.specs.LoadParts.{HasFile, ReadsPaths}

-- where packages are
pub main_lies : (inputs : LoadInputs) (path : List ℕ) → bytes_eq path main_package ≡ true → file_of inputs path ≡ inputs.main
unfolding file_of
main_lies inputs path e = rw e refl

pub other_lies : (inputs : LoadInputs) (path : List ℕ) (listed : Option (List ℕ)) → bytes_eq path main_package ≡ false → inputs.listed path ≡ listed → file_of inputs path ≡ unwrap_or listed []
unfolding file_of
other_lies inputs path listed e l = rw (e, l) refl

-- the answer of reads after files that were read
abbrev pub after_files : List (List ℕ) → Result (List (List ℕ)) Cause → Result (List (List ℕ)) Cause
after_files files (Ok later) = Ok (files ++ later)
after_files files (Err refusal) = Err refusal

-- what the rest reads to, all reads to, after these files
abbrev pub ReadsOn : LoadInputs → Option Contents → ℕ → ℕ → List (List ℕ) → List (List ℕ) → List (List ℕ) → Type 0
ReadsOn inputs contents limit left paths rest files =
    IfKnown contents (λ held. (answer : Result (List (List ℕ)) Cause) → Reads inputs held left rest answer → Reads inputs held limit paths (after_files files answer))

step_answer : (files : List (List ℕ)) (file : List ℕ) (answer : Result (List (List ℕ)) Cause) → after_files files (after_files (file ∷ []) answer) ≡ after_files (files ++ file ∷ []) answer
step_answer files file (Ok later) = ap Ok (sym (append_assoc files (file ∷ []) later))
step_answer files file (Err refusal) = refl

-- one file is read
one_read : (inputs : LoadInputs) (held : Contents) (left : ℕ) (path file : List ℕ) → IsWhole (file_of inputs path) left file_limit held (Ok file)
    → ReadsOne inputs held left path (Ok (left - length file, file))
one_read inputs held left path file is = goes_on file _ is (gives (left - length file, file) refl)

read_step : (inputs : LoadInputs) (held : Contents) (left : ℕ) (path : List ℕ) (later : List (List ℕ)) (file : List ℕ) (answer : Result (List (List ℕ)) Cause)
    → IsWhole (file_of inputs path) left file_limit held (Ok file) → Reads inputs held (left - length file) later answer
    → Reads inputs held left (path ∷ later) (after_files (file ∷ []) answer)
read_step inputs held left path later file (Ok files) is r = takes left (left - length file) path file later files (one_read inputs held left path file is) r
read_step inputs held left path later file (Err refusal) is r = refuses_later left (left - length file) path file later refusal (one_read inputs held left path file is) r

pub reads_start : (inputs : LoadInputs) (contents : Option Contents) (limit : ℕ) (paths : List (List ℕ)) → ReadsOn inputs contents limit limit paths paths []
reads_start inputs contents limit paths = always contents (λ held. same held) where
  same : (held : Contents) (answer : Result (List (List ℕ)) Cause) → Reads inputs held limit paths answer → Reads inputs held limit paths (after_files [] answer)
  same held (Ok later) r = r
  same held (Err refusal) r = r

-- a file that a call read whole, where files are known
abbrev pub IsFileOf : Option Contents → List ℕ → ℕ → List ℕ → Type 0
IsFileOf contents place left file = IfKnown contents (λ held. IsWhole place left file_limit held (Ok file))

-- one file more
pub reads_more : (inputs : LoadInputs) (contents : Option Contents) (limit left i : ℕ) (paths names files : List (List ℕ)) (place file : List ℕ) → i < length names
    → place ≡ file_of inputs (get_or names i []) → IsFileOf contents place left file
    → ReadsOn inputs contents limit left paths (drop i names) files
    → ReadsOn inputs contents limit (left - length file) paths (drop (i + 1) names) (files ++ file ∷ [])
reads_more inputs None limit left i paths names files place file l lies is on = tt
reads_more inputs (Some held) limit left i paths names files place file l lies is on =
    λ answer r.
    let R : List (List ℕ) → Type 0 = λ ps. Reads inputs held (left - length file) ps answer in
    let moved = subst R (ap (λ k. drop k names) (add-one i)) r in
    let W : List ℕ → Type 0 = λ p. IsWhole p left file_limit held (Ok file) in
    let step = read_step inputs held left (get_or names i []) (drop (suc i) names) file answer (subst W lies is) moved in
    let S : List (List ℕ) → Type 0 = λ ps. Reads inputs held left ps (after_files (file ∷ []) answer) in
    let T : Result (List (List ℕ)) Cause → Type 0 = λ a. Reads inputs held limit paths a in
    subst T (step_answer files file answer) (on (after_files (file ∷ []) answer) (subst S (sym (drop-cons names i [] l)) step))

-- a refusal of one file of these is one of loading
path_allowed : (inputs : LoadInputs) (path : List ℕ) → HasFile inputs path → (s : Sort) → IsOfPath (file_of inputs path) s → IsOfPackages inputs s
path_allowed inputs path has (by_reads p count) h = let P : List ℕ → Type 0 = λ q. IsOfPackages inputs (by_reads q count) in subst P (sym h) has
path_allowed inputs path has (of_file p) h = let P : List ℕ → Type 0 = λ q. IsOfPackages inputs (of_file q) in subst P (sym h) has
path_allowed inputs path has (by_writes p count) h = absurd h
path_allowed inputs path has (of_package p) h = absurd h
path_allowed inputs path has (of_input p) h = absurd h
path_allowed inputs path has (of_config p) h = absurd h
path_allowed inputs path has of_options h = absurd h
path_allowed inputs path has of_link h = absurd h
path_allowed inputs path has foreign h = absurd h

-- the first refusal of a read
pub reads_stopped : {C : Type 0} (inputs : LoadInputs) (old new : FileState) (limit left i : ℕ) (paths names files : List (List ℕ)) (view : C → List (List ℕ)) (place : List ℕ) (e : Fault Cause) → i < length names
    → place ≡ file_of inputs (get_or names i []) → HasFile inputs (get_or names i [])
    → ReadsOn inputs old.contents limit left paths (drop i names) files
    → ReadsWhole old new place left file_limit (Err e) → ReadsPaths old new inputs limit paths view (Err e)
reads_stopped {C} inputs old new limit left i paths names files view place e l lies has on is =
    let path : List ℕ = get_or names i [] in
    let W : List ℕ → Type 0 = λ p. ReadsWhole old new p left file_limit (Err e) in
    reading_stopped old new (IsOfPath (file_of inputs path)) (IsOfPackages inputs) (IsWhole (file_of inputs path) left file_limit) (λ held. Reads inputs held limit paths) (λ text. text) view
    (path_allowed inputs path has) (always_known _ _ old.contents (λ held more refusal w. stop held more refusal w) on) e (subst W lies is)
  where
    stop : (held : Contents) → ((answer : Result (List (List ℕ)) Cause) → Reads inputs held left (drop i names) answer → Reads inputs held limit paths (after_files files answer))
        → (refusal : Cause) → IsWhole (file_of inputs (get_or names i [])) left file_limit held (Err refusal) → Reads inputs held limit paths (Err refusal)
    stop held more refusal w =
        let S : List (List ℕ) → Type 0 = λ ps. Reads inputs held left ps (Err refusal) in
        more (Err refusal) (subst S (sym (drop-cons names i [] l)) (refuses left (get_or names i []) (drop (suc i) names) refusal (stops refusal w)))

-- the same where a `?` hands it on
pub reads_exit : {C : Type 0} (inputs : LoadInputs) (old new : FileState) (limit left i : ℕ) (paths names files : List (List ℕ)) (view : C → List (List ℕ)) (place : List ℕ) (r : Result C (Fault Cause)) (e : Fault Cause)
    → IsErrAnd r (λ f. f ≡ e) → i < length names → place ≡ file_of inputs (get_or names i []) → HasFile inputs (get_or names i [])
    → ReadsOn inputs old.contents limit left paths (drop i names) files
    → ReadsWhole old new place left file_limit (Err e) → ReadsPaths old new inputs limit paths view r
reads_exit {C} inputs old new limit left i paths names files view place r e was l lies has on is =
    let P : Result C (Fault Cause) → Type 0 = λ x. ReadsPaths old new inputs limit paths view x in
    exits P r e was (reads_stopped inputs old new limit left i paths names files view place e l lies has on is)

pub reads_end : (inputs : LoadInputs) (contents : Option Contents) (limit left i : ℕ) (paths names files : List (List ℕ)) → length names ≤ i
    → ReadsOn inputs contents limit left paths (drop i names) files → IfKnown contents (λ held. Reads inputs held limit paths (Ok files))
reads_end inputs contents limit left i paths names files g on = always_known _ _ contents (λ held more. last held more) on where
  last : (held : Contents) → ((answer : Result (List (List ℕ)) Cause) → Reads inputs held left (drop i names) answer → Reads inputs held limit paths (after_files files answer))
      → Reads inputs held limit paths (Ok files)
  last held more =
      let T : List (List ℕ) → Type 0 = λ fs. Reads inputs held limit paths (Ok fs) in
      let S : List (List ℕ) → Type 0 = λ ps. Reads inputs held left ps (Ok []) in
      subst T (append-nil files) (more (Ok []) (subst S (sym (drop_of_length-le names g)) (ends left)))
