-- What one line of a builtin list does, by the cases of the code.
use Rattle.std.specs.Prelude.{◌≡◌, ◌++◌, ◌⊎◌, ℕ, List, [], ◌∷◌, Option, None, Some, Bool, true, false}
use Rattle.glk_base.specs.Lines.{is_skipped}
use Rattle.glk_arena.specs.Builtins.{Builtin, Gives, IsGood}

-- what the line gives, which is not skipped; nothing where it is bad
abbrev pub IsGivenBy : List ℕ → Option Builtin → Type 0
IsGivenBy line None = IsGood line → ⊥
IsGivenBy line (Some builtin) = Gives line builtin

-- the line gives a builtin, which the list then has at its end
pub record Adds (line : List ℕ) (before now : List Builtin) : Type 0 where
  pub builtin : Builtin
  pub gives : Gives line builtin
  pub now_is : now ≡ before ++ builtin ∷ []

-- the list after a good line; a line is told to be bad only where it is
abbrev pub TakesLine : List ℕ → List Builtin → List Builtin → Bool → Type 0
TakesLine line before now true = ((is_skipped line ≡ true) × (now ≡ before)) ⊎ Adds line before now
TakesLine line before now false = IsGood line → ⊥
