-- A line of `nm`.
use Rattle.std.specs.Prelude.{◌-◌, ◌==◌, ℕ, Bool, true, false, List, [], ◌++◌, length, codes, decimal, replicate, if◌then◌else◌}
use Rattle.std.specs.Fmt.{digits}
use Rattle.glk_elf.specs.ReaderSections.{FileSymbol}
use Rattle.glk_nm.specs.Gabi.{SHN_UNDEF}
use Rattle.glk_nm.specs.Letters.{letter_of}

abbrev pub address_width : ℕ
address_width = 8

abbrev pub size_width : ℕ
size_width = 10

abbrev pub blank : ℕ
blank = 0x20

-- the blanks before a text that is right in a field; a longer text is whole
abbrev pub blanks_before : ℕ → List ℕ → List ℕ
blanks_before width text = replicate (width - length text) blank

abbrev pub right_in : ℕ → List ℕ → List ℕ
right_in width text = blanks_before width text ++ text

-- a number in small hexadecimal digits
abbrev pub hexadecimal : ℕ → List ℕ
hexadecimal number = digits 16 false number

-- the address of a symbol; one that is not defined has none
abbrev pub address_text : FileSymbol → List ℕ
address_text symbol = if symbol.section == SHN_UNDEF then [] else hexadecimal symbol.value

abbrev pub address_field : FileSymbol → List ℕ
address_field symbol = right_in address_width (address_text symbol)

-- the size of a symbol, where sizes are asked for
abbrev pub size_field : Bool → FileSymbol → List ℕ
size_field false symbol = []
size_field true symbol = codes " " ++ right_in size_width (decimal symbol.size)

-- a letter and a name, to the line's end
abbrev pub words_of : List ℕ → List ℕ → List ℕ
words_of letter name = codes " " ++ letter ++ codes " " ++ name ++ codes "\n"

-- the line of a symbol of a file
unfoldable pub line_of : List ℕ → Bool → FileSymbol → List ℕ
line_of file with_size symbol =
    address_field symbol ++ size_field with_size symbol ++ words_of (letter_of file symbol) symbol.name
