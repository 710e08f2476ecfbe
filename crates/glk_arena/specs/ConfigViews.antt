-- What contracts see of a configuration, and of its reading.
use Rattle.std.specs.Prelude.{◌≡◌, ◌⊎◌, ℕ, List, Option, Some}
use Rattle.std.specs.Option.{option_map}
use Rattle.std.specs.Str.{bytes_eq}
use Rattle.std.specs.String.{string_bytes}
use Rattle.indexmap.specs.IndexMap.{get_by}
use Rattle.glk_base.specs.declared.fault.Fault.{Fault}
use Rattle.glk_base.specs.declared.fault.Fault.TheVariants as fault
use Rattle.glk_base.specs.declared.lines.ConfigLine.{ConfigLine}
use Rattle.glk_base.specs.Lines.{IsFirstBad}
use Rattle.glk_arena.specs.declared.config.Line.{Line}
use Rattle.glk_arena.specs.declared.config.Line.TheVariants as line
use Rattle.glk_arena.specs.declared.config.Config.{Config}
use Rattle.glk_arena.specs.Config.{Lists, IsGood, IsGoodLine}

-- the file of a path
abbrev pub file_in : Config → List ℕ → Option (List ℕ)
file_in config path = option_map string_bytes (get_by (λ k. bytes_eq path k.items) config.files)

-- The fault names the first bad line; or memory was wanting.
abbrev pub IsFaultOf : List (List ℕ) → Fault ConfigLine → Type 0
IsFaultOf ls (fault.Bad bad) = IsFirstBad ls (IsGoodLine ls) bad.line
IsFaultOf ls fault.OutOfMemory = Unit {0}

-- what a line says, by the cases of the code
abbrev pub IsLineOf : List ℕ → Line → Type 0
IsLineOf text line.Passed = IsGood text × ((path file : List ℕ) → Lists text path file → ⊥)
IsLineOf text (line.Package path file) = Lists text path.now file.now
IsLineOf text line.Bad = IsGood text → ⊥

-- After a line each path has the file that the line gives it; where it gives none, the one that it had.
pub record Takes (text : List ℕ) (before now : Config) : Type 0 where
  pub each : (path : List ℕ) →
      ((file : List ℕ) × Lists text path file × (file_in now path ≡ Some file))
      ⊎ (((file : List ℕ) → Lists text path file → ⊥) × (file_in now path ≡ file_in before path))
