-- A package file: a bare object, or an archive whose members hold objects.
use Rattle.std.specs.Prelude.{◌≡◌, ◌⊎◌, ℕ, List, [], ◌∷◌, length, codes, nat_eq, None, Result, Ok, Err, MatchBool}
use Rattle.std.specs.List.{starts_with}
use Rattle.glk_base.specs.declared.fault.Fault.{Fault}
use Rattle.glk_base.specs.declared.fault.Fault.TheVariants as fault
use Rattle.glk_ar.specs.declared.walk.ArBad.{ArBad}
use Rattle.glk_ar.specs.Archive.{Entry, HasMagic, no_magic, first_offset, IsMemberAt, after, IsRefused, Archive}
use Rattle.glk_package.specs.declared.refusal.PackageBad.{PackageBad}
use Rattle.glk_package.specs.ObjectRules.{ObjectRules, rules_after}
use Rattle.glk_package.specs.Members.{IsObjectIn, IsBodyFault, AreObjects, IsMemberFault, archive_fault}
use Rattle.glk_package.specs.ObjectEntry.{ObjectEntry}

-- how a bare object begins
abbrev pub bare_start : List ℕ
bare_start = codes "go object "

-- From p on there are these members, one after another, up to q.
abbrev pub AreMembers : List ℕ → ℕ → List Entry → ℕ → Type 0
AreMembers file p [] q = p ≡ q
AreMembers file p (e ∷ es) q = IsMemberAt file p e × AreMembers file (after file p) es q

-- Where member n would begin there is none; or there is one, and what it holds has a fault.
abbrev pub IsFaultAt : ObjectRules → List ℕ → ℕ → ℕ → PackageBad → Type 0
IsFaultAt rules file p n bad =
    ((broken : ArBad) × IsRefused file p broken × (bad ≡ archive_fault n broken))
    ⊎ ((e : Entry) × IsMemberAt file p e × IsMemberFault rules n e bad)

-- The first members are there and hold their objects, and this is the fault of the next one.
pub record IsFirstFault (rules : ObjectRules) (file : List ℕ) (bad : PackageBad) : Type 0 where
  pub before : List Entry
  pub at : ℕ
  pub members : AreMembers file first_offset before at
  pub objects : List ObjectEntry
  pub hold : AreObjects rules 0 before objects
  pub fault : IsFaultAt (rules_after rules objects) file at (length before) bad

-- What an archive of objects is: all its members, and these are their objects; or its first fault, which may be that it is no
-- archive.
abbrev pub ArchiveFile : ObjectRules → List ℕ → Result (List ObjectEntry) PackageBad → Type 0
ArchiveFile rules file (Ok objects) = (es : List Entry) × Archive file (Ok es) × AreObjects rules 0 es objects
ArchiveFile rules file (Err bad) =
    (¬ HasMagic file × (bad ≡ archive_fault 0 no_magic)) ⊎ (HasMagic file × IsFirstFault rules file bad)

-- What a bare object is: member 0, without a name.
abbrev pub BareFile : ObjectRules → List ℕ → Result (List ObjectEntry) PackageBad → Type 0
BareFile rules file (Ok objects) = (object : ObjectEntry) × IsObjectIn rules 0 0 None file object × (objects ≡ object ∷ [])
BareFile rules file (Err bad) = IsBodyFault rules 0 0 file bad

-- What a package file is by the rules for what its objects have in common: its objects in order, or its first fault.
abbrev pub PackageFile : ObjectRules → List ℕ → Result (List ObjectEntry) PackageBad → Type 0
PackageFile rules file answer =
    MatchBool (starts_with nat_eq file bare_start) (BareFile rules file answer) (ArchiveFile rules file answer)

-- By the same rules a file is one package, or has one first fault, and not both.
abbrev pub IsOnePackage : Type 0
IsOnePackage = (rules : ObjectRules) (file : List ℕ) (one other : Result (List ObjectEntry) PackageBad)
    → PackageFile rules file one → PackageFile rules file other → one ≡ other

-- By all rules a file is a package, or has a first fault.
abbrev pub IsSomePackage : Type 0
IsSomePackage = (rules : ObjectRules) (file : List ℕ) → (answer : Result (List ObjectEntry) PackageBad) × PackageFile rules file answer

-- A call was refused for such a fault, or ran out of memory.
abbrev pub OrOutOfMemory : (PackageBad → Type 0) → Fault PackageBad → Type 0
OrOutOfMemory P (fault.Bad bad) = P bad
OrOutOfMemory P fault.OutOfMemory = Unit {0}

-- Why a file has no objects: its first fault, or the call ran out of memory.
abbrev pub IsRefusalOf : ObjectRules → List ℕ → Fault PackageBad → Type 0
IsRefusalOf rules file = OrOutOfMemory (λ bad. PackageFile rules file (Err bad))
