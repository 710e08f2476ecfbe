-- What the numbers in the records of symbols and auxes say: calling conventions, types, and what auxes are.
use Rattle.std.specs.Prelude.{◌≡◌, ◌≤◌, ◌==◌, ◌⊎◌, ℕ, List, [], ◌∷◌, Option, None, Some, if◌then◌else◌}
use Rattle.std.specs.List.{slice_get}
use Rattle.glk_obj.specs.declared.symbols.Abi.{Abi}
use Rattle.glk_obj.specs.declared.symbols.Abi.TheVariants.{Abi0, Internal, Static}
use Rattle.glk_obj.specs.declared.symbols.SymKind.{SymKind}
use Rattle.glk_obj.specs.declared.symbols.SymKind.TheVariants as kind
use Rattle.glk_obj.specs.declared.symbols.AuxKind.{AuxKind}
use Rattle.glk_obj.specs.declared.symbols.AuxKind.TheVariants as aux

-- Calling conventions.

abbrev pub abi0 : ℕ
abi0 = 0

abbrev pub abi_internal : ℕ
abi_internal = 1

-- of a symbol that only its own object knows
abbrev pub abi_static : ℕ
abi_static = 65535

abbrev pub abi_number : Abi → ℕ
abi_number Abi0 = abi0
abi_number Internal = abi_internal
abi_number Static = abi_static

-- the convention of a number, if it is one's
abbrev pub abi_of : ℕ → Option Abi
abi_of n =
    if n == abi0 then Some Abi0
    else (if n == abi_internal then Some Internal
    else (if n == abi_static then Some Static else None))

-- Types of symbols that can have a place in an image. An object may have symbols of other types.

-- functions
abbrev pub text_type : ℕ
text_type = 1

-- data that are only read
abbrev pub rodata_type : ℕ
rodata_type = 2

-- data without pointers
abbrev pub noptrdata_type : ℕ
noptrdata_type = 3

abbrev pub data_type : ℕ
data_type = 4

-- zeros
abbrev pub bss_type : ℕ
bss_type = 5

-- zeros without pointers
abbrev pub noptrbss_type : ℕ
noptrbss_type = 6

-- zeros of each thread
abbrev pub tlsbss_type : ℕ
tlsbss_type = 7

abbrev pub type_number : SymKind → ℕ
type_number kind.Text = text_type
type_number kind.Rodata = rodata_type
type_number kind.NoptrData = noptrdata_type
type_number kind.Data = data_type
type_number kind.Bss = bss_type
type_number kind.NoptrBss = noptrbss_type
type_number kind.TlsBss = tlsbss_type

-- the type of a number, if it is one's
abbrev pub type_of : ℕ → Option SymKind
type_of n =
    if n == text_type then Some kind.Text
    else (if n == rodata_type then Some kind.Rodata
    else (if n == noptrdata_type then Some kind.NoptrData
    else (if n == data_type then Some kind.Data
    else (if n == bss_type then Some kind.Bss
    else (if n == noptrbss_type then Some kind.NoptrBss
    else (if n == tlsbss_type then Some kind.TlsBss else None))))))

-- Types of auxes: what a symbol has besides its data.

-- the Go type of a variable
abbrev pub gotype : ℕ
gotype = 0

-- a function's argument and frame sizes, files and inlined calls
abbrev pub funcinfo : ℕ
funcinfo = 1

-- pointer maps and the like
abbrev pub funcdata : ℕ
funcdata = 2

-- the first and the last of four parts of DWARF
abbrev pub dwarf_info : ℕ
dwarf_info = 3

abbrev pub dwarf_lines : ℕ
dwarf_lines = 6

-- five tables by program counter: stack depth, file, line, inlined call, and data
abbrev pub pcsp : ℕ
pcsp = 7

abbrev pub pcfile : ℕ
pcfile = 8

abbrev pub pcline : ℕ
pcline = 9

abbrev pub pcinline : ℕ
pcinline = 10

abbrev pub pcdata : ℕ
pcdata = 11

abbrev pub aux_number : AuxKind → ℕ
aux_number aux.GoType = gotype
aux_number aux.FuncInfo = funcinfo
aux_number aux.FuncData = funcdata
aux_number aux.DwarfInfo = dwarf_info
aux_number aux.DwarfLoc = 4
aux_number aux.DwarfRanges = 5
aux_number aux.DwarfLines = dwarf_lines
aux_number aux.PcSp = pcsp
aux_number aux.PcFile = pcfile
aux_number aux.PcLine = pcline
aux_number aux.PcInline = pcinline
aux_number aux.PcData = pcdata

-- in the order of their numbers, from 0 on
abbrev pub aux_kinds : List AuxKind
aux_kinds =
    aux.GoType ∷ aux.FuncInfo ∷ aux.FuncData ∷ aux.DwarfInfo ∷ aux.DwarfLoc ∷ aux.DwarfRanges ∷ aux.DwarfLines
    ∷ aux.PcSp ∷ aux.PcFile ∷ aux.PcLine ∷ aux.PcInline ∷ aux.PcData ∷ []

-- what an aux of a number is, if the number has a meaning
abbrev pub aux_kind_of : ℕ → Option AuxKind
aux_kind_of n = slice_get aux_kinds n

-- the aux is a part of a runtime table, not a Go type and not DWARF
unfoldable pub IsTableKind : ℕ → Type 0
IsTableKind n = ((n ≡ funcinfo) ⊎ (n ≡ funcdata)) ⊎ ((pcsp ≤ n) × (n ≤ pcdata))
