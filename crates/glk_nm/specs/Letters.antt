-- The letter by which `nm` tells of what class a symbol is.
use Rattle.std.specs.Prelude.{◌+◌, ◌==◌, ℕ, Bool, List, codes, if◌then◌else◌, Option, None, Some}
use Rattle.glk_elf.specs.Gabi.{SHT_NOBITS, SHF_ALLOC, SHF_WRITE, SHF_EXECINSTR}
use Rattle.glk_elf.specs.ReaderSections.{FileSection, FileSymbol, section_numbered}
use Rattle.glk_nm.specs.Gabi.{SHN_UNDEF, SHN_COMMON, has_flags, is_local}
use Rattle.glk_nm.specs.declared.letter.SymbolClass.{SymbolClass}
use Rattle.glk_nm.specs.declared.letter.SymbolClass.TheVariants as class

-- the class of what is in a section, by its type and its flags
abbrev pub class_in : FileSection → SymbolClass
class_in section =
    if section.kind == SHT_NOBITS then class.Bss
    else (if has_flags section.flags (SHF_ALLOC + SHF_EXECINSTR) then class.Code
    else (if has_flags section.flags (SHF_ALLOC + SHF_WRITE) then class.Data
    else (if has_flags section.flags SHF_ALLOC then class.ReadOnly
    else class.Unknown)))

-- what has a number that is no section's is of no known class
abbrev pub class_in_any : Option FileSection → SymbolClass
class_in_any None = class.Unknown
class_in_any (Some section) = class_in section

-- the class of a symbol of a file
abbrev pub class_of : List ℕ → FileSymbol → SymbolClass
class_of file symbol =
    if symbol.section == SHN_UNDEF then class.Undefined
    else (if symbol.section == SHN_COMMON then class.Bss
    else class_in_any (section_numbered file symbol.section))

-- the table of letters: a local symbol has the small one
abbrev pub letter : SymbolClass → Bool → List ℕ
letter class.Undefined local = if local then codes "u" else codes "U"
letter class.Bss local = if local then codes "b" else codes "B"
letter class.Code local = if local then codes "t" else codes "T"
letter class.Data local = if local then codes "d" else codes "D"
letter class.ReadOnly local = if local then codes "r" else codes "R"
letter class.Unknown local = if local then codes "_" else codes "?"

unfoldable pub letter_of : List ℕ → FileSymbol → List ℕ
letter_of file symbol = letter (class_of file symbol) (is_local symbol)
