-- The pieces of an image that tell the runtime of its functions, and memory that has them.
use Rattle.std.specs.Prelude.{ℕ, ◌≡◌, ◌+◌, ◌-◌, ◌^◌, ◌<◌, List, [], ◌∷◌, length, get_or, Option, Some}
use Rattle.glk_frames.specs.Buckets.{findfunctab}
use Rattle.glk_frames.specs.Image.{Module}
use Rattle.glk_frames.specs.Memory.{read_in}
use Rattle.glk_frames_reader.specs.Opening.{region_address, region_end}
use Rattle.glk_pctab.specs.Functions.{Pclntab, function, funcdata_of, tree_offset}
use Rattle.glk_pctab.specs.Section.{section, trees, start_in}
use Rattle.glk_pctab.specs.Sound.{CanWriteAll, HasSoundTables}
use Rattle.glk_pcln.specs.declared.module_data.ModuleAddresses.{ModuleAddresses}

-- findfunctab of these functions
unfoldable pub buckets : Pclntab → List ℕ
buckets t = findfunctab (start_in t) (length t.functions) t.text_size

-- memory answers the n bytes from an address on, or none; it has these bytes from an address on
abbrev pub HasPiece : (ℕ → ℕ → Option (List ℕ)) → ℕ → List ℕ → Type 0
HasPiece memory address bytes =
    (at n : ℕ) (x : List ℕ) → read_in ((address, bytes) ∷ []) at n ≡ Some x → memory at n ≡ Some x

-- It has the inline trees and findfunctab where module data say.
pub record HasPieces (t : Pclntab) (a : ModuleAddresses) (memory : ℕ → ℕ → Option (List ℕ)) : Type 0 where
  pub trees_there : HasPiece memory (a.rodata.start + t.trees) (trees t)
  pub buckets_there : HasPiece memory a.findfunctab (buckets t)

-- The functions, with this memory: funcdata count from the start of `.rodata`. Whoever finds them by module data knows of findfunctab too.
abbrev pub module_with : Pclntab → ModuleAddresses → (ℕ → ℕ → Option (List ℕ)) → Option ℕ → Module
module_with t a memory table = record { region = section t; memory = memory; base = a.rodata.start; buckets = table }

-- the region that module data in these bytes tell, as memory has it
abbrev pub region_told : (ℕ → ℕ → Option (List ℕ)) → List ℕ → Option (List ℕ)
region_told memory bytes = memory (region_address bytes) (region_end bytes - region_address bytes)

-- Functions that can be written and read back: their tables are sound, and their numbers fit.
pub record AreSoundFunctions (t : Pclntab) : Type 0 where
  pub write : CanWriteAll t
  pub tables : (i : ℕ) → i < length t.functions → HasSoundTables t (function t i)
  pub funcdata : (i : ℕ) → i < length t.functions
      → (k : ℕ) → get_or (funcdata_of (tree_offset t.trees t.functions i) (function t i)) k 0 < 2 ^ 32
