-- What `addr2line` prints: the function and the line of each address.
use Rattle.std.specs.Prelude.{ℕ, ℤ, Bool, true, false, List, [], ◌∷◌, ◌++◌, codes, Option, None, Some}
use Rattle.std.specs.Fmt.{signed_decimal}
use Rattle.std.specs.List.{flat_map}
use Rattle.std.specs.Option.{option_map}
use Rattle.glk_frames.specs.Chain.{Frame}
use Rattle.glk_frames_reader.specs.Opening.{FileModule}
use Rattle.glk_frames_reader.specs.Found.{Function, function_of, function_name, frames_at, index_found}
use Rattle.glk_addr2line.specs.Addresses.{address_of}
use Rattle.glk_addr2line.specs.Lines.{input_lines, without_return}

-- a function, and a line of a file
unfoldable pub pair_text : List ℕ → List ℕ → ℤ → List ℕ
pair_text name file line = name ++ codes "\n" ++ file ++ codes ":" ++ signed_decimal line ++ codes "\n"

-- what is printed where there is no function
abbrev pub unknown_text : List ℕ
unknown_text = codes "?\n?:0\n"

abbrev pub frame_text : Frame → List ℕ
frame_text frame = pair_text frame.name frame.file frame.line

-- all frames
abbrev pub frames_text : List Frame → List ℕ
frames_text frames = flat_map frame_text frames

-- a function, with the file and the line of the first frame
abbrev pub first_text : List ℕ → List Frame → List ℕ
first_text name [] = unknown_text
first_text name (frame ∷ callers) = pair_text name frame.file frame.line

-- the text of an address in a function, with or without the frames of inlined calls
abbrev pub function_text : Bool → Function → ℕ → List ℕ
function_text true f pc = frames_text (frames_at f pc)
function_text false f pc = first_text (function_name f) (frames_at f pc)

abbrev pub found_text : Bool → ℕ → Option Function → List ℕ
found_text inline pc None = unknown_text
found_text inline pc (Some f) = function_text inline f pc

-- the text of what a line says: an address, or none
abbrev pub address_text : FileModule → Bool → Option ℕ → List ℕ
address_text m inline None = unknown_text
address_text m inline (Some pc) = found_text inline pc (option_map (function_of m) (index_found m pc))

unfoldable pub line_text : FileModule → Bool → List ℕ → List ℕ
line_text m inline line = address_text m inline (address_of (without_return line))

-- the texts of these lines
abbrev pub lines_text : FileModule → Bool → List (List ℕ) → List ℕ
lines_text m inline ls = flat_map (line_text m inline) ls

-- the text of the input
abbrev pub input_text : FileModule → Bool → List ℕ → List ℕ
input_text m inline input = lines_text m inline (input_lines input)
