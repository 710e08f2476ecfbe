-- The function at an address, and what is shown of it there.
use Rattle.std.specs.Prelude.{ℕ, ◌+◌, ◌-◌, List, Option, None, Some, cond, nat_lt, ℤ, pos, ◌-ℤ◌}
use Rattle.glk_frames.specs.Chain.{Frame}
use Rattle.glk_frames.specs.Region.{text_start, start_of, record_offset, found_in}
use Rattle.glk_frames.specs.Image.{name_in, depth_in, frames_in}
use Rattle.glk_frames.specs.Buckets.{bucket_found}
use Rattle.glk_elf.specs.ReaderSections.{loaded}
use Rattle.glk_frames_reader.specs.Opening.{FileModule, image_of}

-- the index at an address, of the index at an offset of the text; there is none before the text
abbrev pub from_text : FileModule → ℕ → (ℕ → Option ℕ) → Option ℕ
from_text m pc found = cond (nat_lt pc (text_start m.region)) None (found (pc - text_start m.region))

-- the index of the function at an address, by the search of all functions
unfoldable pub index_found : FileModule → ℕ → Option ℕ
index_found m pc = from_text m pc (found_in m.region)

abbrev pub in_buckets : FileModule → Option ℕ → ℕ → Option ℕ
in_buckets m None = found_in m.region
in_buckets m (Some table) = bucket_found m.region (loaded m.file) table

-- and by buckets, where there are any
unfoldable pub index_found_by_bucket : FileModule → ℕ → Option ℕ
index_found_by_bucket m pc = from_text m pc (in_buckets m m.buckets)

-- A function of an image: which of them it is.
pub record Function : Type 0 where
  pub image : FileModule
  pub index : ℕ

abbrev pub function_of : FileModule → ℕ → Function
function_of m i = record { image = m; index = i }

unfoldable pub function_name : Function → List ℕ
function_name f = name_in f.image.region (record_offset f.image.region f.index)

-- the address where it begins
unfoldable pub entry_address : Function → ℕ
entry_address f = text_start f.image.region + start_of f.image.region f.index

-- how far behind its beginning an address is
unfoldable pub offset_in : Function → ℕ → ℤ
offset_in f pc = pos pc -ℤ pos (entry_address f)

-- the depth of the stack at an address
unfoldable pub depth_at : Function → ℕ → Option ℤ
depth_at f pc = depth_in f.image.region f.index (offset_in f pc)

-- the frames at an address
unfoldable pub frames_at : Function → ℕ → List Frame
frames_at f pc = frames_in (image_of f.image) f.index (offset_in f pc)
