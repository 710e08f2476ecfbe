-- Images whose sections are filled at their places: all but the bytes of the sections, and sections with nothing in
-- them.
use Rattle.std.specs.Prelude.{ℕ, ◌+◌, ◌-◌, ◌==◌, if◌then◌else◌, List, map, take, replicate, slice_range}
use Rattle.glk_elf.specs.Sections.{text, written_data, placed_kinds}
use Rattle.glk_elf.specs.Image.{Parts, Row, image_base}
use Rattle.glk_elf.specs.Placing.{of_section, parts_with}

-- all of an image but the bytes of its sections: the entry's address, the sizes and the addresses of the sections by
-- number, and the symbol rows
pub record Frame : Type 0 where
  pub entry : ℕ
  pub sizes : List ℕ
  pub addrs : List ℕ
  pub rows : List Row

-- the parts with this frame and these bytes of the sections in the file
abbrev pub frame_with : Frame → List (List ℕ) → Parts
frame_with f bytes = parts_with f.entry f.sizes f.addrs bytes f.rows

-- the byte that stands in a section where nothing else does: in .text a trap, in all others zero
abbrev pub padding_of : ℕ → ℕ
padding_of n = if n == text then 0xCC else 0

-- the sections in the file with nothing in them
abbrev pub blank_bytes : List ℕ → List (List ℕ)
blank_bytes sizes = map (λ k. replicate (of_section sizes k.number) (padding_of k.number)) (take written_data placed_kinds)

-- the parts with this frame and nothing in their sections
abbrev pub blank : Frame → Parts
blank f = frame_with f (blank_bytes f.sizes)

-- the bytes of a file where the sections of a frame are
abbrev pub bytes_in : Frame → List ℕ → List (List ℕ)
bytes_in f b =
    map (λ k. slice_range b (of_section f.addrs k.number - image_base) (of_section f.addrs k.number - image_base + of_section f.sizes k.number))
    (take written_data placed_kinds)
