-- What the import configuration of a world lists.
use Rattle.std.specs.Prelude.{ℕ, ◌<◌, List, length, Some}
use Rattle.glk_base.specs.Lines.{lines, AllGood}
use Rattle.glk_arena.specs.Config.{IsGoodLine, IsLastFile}
use Rattle.glk_gen.specs.Packages.{package_count, package_path, package_file}
use Rattle.glk_gen.specs.Configs.{importcfg_of}

-- the lines of the configuration
abbrev pub config_lines : ℕ → List (List ℕ)
config_lines n = lines (importcfg_of n)

-- Each line is good, and each package has the file that the world has for it.
pub record ListsPackages (n : ℕ) : Type 0 where
  pub good : AllGood (config_lines n) (IsGoodLine (config_lines n))
  pub files : (k : ℕ) → k < package_count n
      → IsLastFile (config_lines n) (length (config_lines n)) (package_path k) (Some (package_file k))
