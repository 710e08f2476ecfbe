-- What contracts see of a table of packages.
use Rattle.std.specs.Prelude.{◌≡◌, ◌++◌, ℕ, List, [], ◌∷◌, length, Option, Some, None, cond}
use Rattle.std.specs.Option.{option_or}
use Rattle.std.specs.Str.{bytes_eq}
use Rattle.indexmap.specs.IndexMap.{get_by}
use Rattle.glk_arena.specs.declared.packages.Spellings.{Spellings}
use Rattle.glk_arena.specs.declared.packages.PackageTable.{PackageTable}
use Rattle.glk_arena.specs.Packages.{place_of_path, place_of_escaped}

-- the index of a spelling
abbrev pub place_in : Spellings → List ℕ → Option ℕ
place_in table name = get_by (λ k. bytes_eq name k.items) table.refs

-- a spelling more, where it is the first of its kind
pub record Adds (spelling : List ℕ) (place : ℕ) (before now : Spellings) : Type 0 where
  pub each : (name : List ℕ) → place_in now name ≡ option_or (place_in before name) (cond (bytes_eq name spelling) (Some place) None)

-- the table of the packages with these paths
pub record IsTableOf (paths : List (List ℕ)) (table : PackageTable) : Type 0 where
  pub plain : (name : List ℕ) → place_in table.plain name ≡ place_of_path paths name
  pub escaped : (name : List ℕ) → place_in table.escaped name ≡ place_of_escaped paths name

-- a package more, with this path, at this place
abbrev pub AddsPath : List ℕ → ℕ → PackageTable → PackageTable → Type 0
AddsPath path place before now =
    (paths : List (List ℕ)) → length paths ≡ place → IsTableOf paths before → IsTableOf (paths ++ path ∷ []) now
