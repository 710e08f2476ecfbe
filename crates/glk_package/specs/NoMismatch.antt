-- What it comes to that objects have nothing in common.
use Rattle.std.specs.Prelude.{ℕ, List, Err}
use Rattle.glk_package.specs.declared.refusal.PackageBad.TheVariants as bad
use Rattle.glk_package.specs.ObjectRules.{any_rules}
use Rattle.glk_package.specs.Package.{PackageFile}

-- No file has then the fault of another line.
abbrev pub HasNoMismatch : Type 0
HasNoMismatch = (file : List ℕ) (n : ℕ) (first here : List ℕ) → PackageFile any_rules file (Err (bad.HeaderMismatch n first here)) → ⊥
