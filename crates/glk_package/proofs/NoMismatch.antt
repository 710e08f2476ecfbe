-- Where any line will do, none is another one.
use Rattle.std.proofs.Common.{◌≡◌, ℕ, List, Bool, true, false, MatchBool, Err, inl, inr}
use Rattle.std.specs.List.{starts_with}
use Rattle.std.specs.Prelude.{nat_eq}
use Rattle.glk_ar.specs.declared.walk.ArBad.{ArBad}
use Rattle.glk_package.specs.declared.refusal.PackageBad.TheVariants as bad
use Rattle.glk_package.specs.HeaderRule.{any, exactly}
use Rattle.glk_package.specs.ObjectRules.{any_rules}
use Rattle.glk_package.specs.Members.{HasMismatch, archive_fault}
use Rattle.glk_package.specs.Package.{bare_start, IsFaultAt, BareFile, ArchiveFile, PackageFile}

asks_none : (body first here : List ℕ) → HasMismatch any_rules body first here → ⊥
asks_none body first here is = let asked : any ≡ exactly first = is.mismatch.asked in cc

no_archive_fault : (n member : ℕ) (first here : List ℕ) (broken : ArBad) → bad.HeaderMismatch member first here ≡ archive_fault n broken → ⊥
no_archive_fault n member first here broken e = cc

no_fault_at : (file : List ℕ) (p n member : ℕ) (first here : List ℕ) → IsFaultAt any_rules file p n (bad.HeaderMismatch member first here) → ⊥
no_fault_at file p n member first here (inl broken) = no_archive_fault n member first here broken.0 broken.2
no_fault_at file p n member first here (inr held) = asks_none held.0.body first here held.2.1.1

in_archive : (file : List ℕ) (member : ℕ) (first here : List ℕ) → ArchiveFile any_rules file (Err (bad.HeaderMismatch member first here)) → ⊥
in_archive file member first here (inl none) = no_archive_fault 0 member first here _ none.1
in_archive file member first here (inr is) = no_fault_at file is.1.at _ member first here is.1.fault

by_start : (bare : Bool) (file : List ℕ) (member : ℕ) (first here : List ℕ)
    → MatchBool bare (BareFile any_rules file (Err (bad.HeaderMismatch member first here))) (ArchiveFile any_rules file (Err (bad.HeaderMismatch member first here))) → ⊥
by_start true file member first here is = asks_none file first here is.1
by_start false file member first here is = in_archive file member first here is

pub no_mismatch : (file : List ℕ) (member : ℕ) (first here : List ℕ) → PackageFile any_rules file (Err (bad.HeaderMismatch member first here)) → ⊥
no_mismatch file member first here is = by_start (starts_with nat_eq file bare_start) file member first here is
