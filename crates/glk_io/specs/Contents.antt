-- Files as their owner knows them: paths with bytes, or nothing.
use Rattle.std.specs.Prelude.{◌≡◌, ◌≢◌, ◌⊎◌, ℕ, ◌≤◌, List, take, length, Option, Some, None, ⊤}
use Rattle.std.specs.Map.{lookup}
use Rattle.std.specs.Str.{bytes_eq}

-- paths with their bytes; where a path is listed twice, the first counts
abbrev pub Contents : Type 0
Contents = List (List ℕ × List ℕ)

-- the bytes at a path
abbrev pub file_in : Contents → List ℕ → Option (List ℕ)
file_in files path = lookup (bytes_eq path) files

-- the file at the path is these bytes, and every other file is as before
pub record Replaces (before now : Contents) (path bytes : List ℕ) : Type 0 where
  pub there : file_in now path ≡ Some bytes
  pub others : (other : List ℕ) → other ≢ path → file_in now other ≡ file_in before other

-- a fact of contents, where they are known
abbrev pub IfKnown : Option Contents → (Contents → Type 0) → Type 0
IfKnown None P = ⊤
IfKnown (Some files) P = P files

-- the contents are as before; known ones stay known
abbrev pub Unchanged : Option Contents → Option Contents → Type 0
Unchanged before now = now ≡ before

-- a write took place: contents that were known still are, with the bytes at the path
abbrev pub Writes : Option Contents → Option Contents → List ℕ → List ℕ → Type 0
Writes None now path bytes = now ≡ None
Writes (Some before) None path bytes = ⊥
Writes (Some before) (Some now) path bytes = Replaces before now path bytes

-- a write was cut short: the file is a prefix of the bytes
abbrev pub WritesPrefix : Option Contents → Option Contents → List ℕ → List ℕ → Type 0
WritesPrefix before now path bytes =
    (kept : ℕ) × (kept ≤ length bytes) × Writes before now path (take kept bytes)

-- what a failed write leaves: the contents are as before, or the file is a prefix of the bytes
abbrev pub PartlyWritten : Option Contents → Option Contents → List ℕ → List ℕ → Type 0
PartlyWritten before now path bytes = Unchanged before now ⊎ WritesPrefix before now path bytes
