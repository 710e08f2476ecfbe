-- The refusal of a package file as a cause.
use Rattle.std.specs.Prelude.{◌≡◌, ℕ, List}
use Rattle.glk_base.specs.declared.fault.Fault.{Fault}
use Rattle.glk_base.specs.declared.fault.Fault.TheVariants as fault
use Rattle.glk_cause.specs.declared.cause.Cause.{Cause}
use Rattle.glk_cause.specs.declared.cause.Cause.TheVariants as cause
use Rattle.glk_package.specs.declared.refusal.PackageBad.{PackageBad}
use Rattle.glk_package.specs.declared.refusal.PackageBad.TheVariants as bad

-- the refusal of a package file for its first fault
abbrev pub refusal_of : List ℕ → PackageBad → Cause
refusal_of path (bad.NotGo member) = cause.NotGoObject path member
refusal_of path (bad.HeaderMismatch member first here) = cause.HeaderLine path member first here
refusal_of path (bad.Malformed member family rule offset) = cause.Malformed path member family rule offset

-- the fault of a call that takes memory, and is else refused so
abbrev pub IsRefusedFor : (Cause → Type 0) → Fault Cause → Type 0
IsRefusedFor P (fault.Bad refusal) = P refusal
IsRefusedFor P fault.OutOfMemory = Unit {0}

-- the same for one refusal that is known
abbrev pub IsFaultOfFile : List ℕ → PackageBad → Fault Cause → Type 0
IsFaultOfFile path bad answer = IsRefusedFor (λ refusal. refusal ≡ refusal_of path bad) answer
