-- What is promised of the two searches.
use Rattle.std.specs.Prelude.{ℕ, ◌≡◌, ◌+◌, ◌*◌, ◌<◌, List, [], ◌∷◌, Some}
use Rattle.glk_elf.specs.ReaderSections.{loaded}
use Rattle.glk_frames.specs.Memory.{read_in}
use Rattle.glk_frames.specs.Laws.{HasBuckets}
use Rattle.glk_frames_reader.specs.Opening.{FileModule}
use Rattle.glk_frames_reader.specs.Found.{index_found, index_found_by_bucket}

-- These bytes are the buckets of the region's functions, for a text of this size, and the file loads each bucket as it is
-- in them, from the address of findfunctab on.
pub record LoadsBuckets (m : FileModule) (table : ℕ) (bytes : List ℕ) (size : ℕ) : Type 0 where
  pub address : m.buckets ≡ Some table
  pub buckets : HasBuckets m.region bytes 0 size
  pub each : (k : ℕ) → 4096 * k < size
      → loaded m.file (table + 20 * k) 20 ≡ read_in ((table, bytes) ∷ []) (table + 20 * k) 20

-- then both searches find the same function at each address
abbrev pub SearchesAgree : Type 0
SearchesAgree =
    (m : FileModule) (table : ℕ) (bytes : List ℕ) (size : ℕ) → LoadsBuckets m table bytes size
    → (pc : ℕ) → index_found_by_bucket m pc ≡ index_found m pc
