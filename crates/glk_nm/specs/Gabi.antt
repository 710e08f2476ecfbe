-- The numbers of symbols in ELF-64, named as the System V gABI names them.
use Rattle.std.specs.Prelude.{◌/◌, ◌%◌, ◌==◌, ℕ, Bool, bit_and}
use Rattle.glk_elf.specs.Gabi.{STB_LOCAL}
use Rattle.glk_elf.specs.ReaderSections.{FileSymbol}

-- st_info: the binding is above the type
abbrev pub st_types : ℕ
st_types = 16

abbrev pub st_bind : FileSymbol → ℕ
st_bind symbol = symbol.info / st_types

abbrev pub st_type : FileSymbol → ℕ
st_type symbol = symbol.info % st_types

abbrev pub STT_SECTION : ℕ
STT_SECTION = 3

abbrev pub STT_FILE : ℕ
STT_FILE = 4

-- st_shndx: no section, and memory that is common to several objects
abbrev pub SHN_UNDEF : ℕ
SHN_UNDEF = 0

abbrev pub SHN_COMMON : ℕ
SHN_COMMON = 0xFFF2

-- the symbol is local
abbrev pub is_local : FileSymbol → Bool
is_local symbol = st_bind symbol == STB_LOCAL

-- sh_flags: all of these are set
abbrev pub has_flags : ℕ → ℕ → Bool
has_flags flags wanted = bit_and flags wanted == wanted
