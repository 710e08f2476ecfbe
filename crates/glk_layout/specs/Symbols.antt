-- The boxes of kept symbols: which section each is in, its alignment, and its room.
use Rattle.std.specs.Prelude.{ℕ, ◌+◌, ◌==◌, nat_le, if◌then◌else◌, max, Bool, false, Option, Some, None, unwrap_or, option_and_then, List, [], ◌∷◌, filter, find, map}
use Rattle.std.specs.Option.{option_map_or}
use Rattle.std.specs.List.{sum_by}
use Rattle.glk_obj.specs.declared.symbols.SymKind.{SymKind}
use Rattle.glk_obj.specs.declared.symbols.SymKind.TheVariants.{Text, Rodata, NoptrData, Data, Bss, NoptrBss, TlsBss}
use Rattle.glk_elf.specs.Sections.{text, rodata, noptrdata, written_data, bss, noptrbss}
use Rattle.glk_layout.specs.declared.input.KeptSymbol.{KeptSymbol}
use Rattle.glk_layout.specs.Boxes.{Box}

-- the number of the section that holds symbols of a type. The variables of a thread have no symbol with content.
abbrev pub section_of_kind : SymKind → Option ℕ
section_of_kind Text = Some text
section_of_kind Rodata = Some rodata
section_of_kind NoptrData = Some noptrdata
section_of_kind Data = Some written_data
section_of_kind Bss = Some bss
section_of_kind NoptrBss = Some noptrbss
section_of_kind TlsBss = None

-- the number of a symbol's section; a made name is in none
abbrev pub home_of : KeptSymbol → Option ℕ
home_of s = option_and_then section_of_kind s.kind

-- a symbol is in the section of a number
unfoldable pub is_in : ℕ → KeptSymbol → Bool
is_in n s = option_map_or (λ home. home == n) (home_of s) false

-- a function's alignment where it asks for none, and the least room that it takes
abbrev pub text_align : ℕ
text_align = 32

abbrev pub least_room : ℕ
least_room = 16

-- the alignments of data that ask for none, the greatest first, and the least
abbrev pub data_aligns : List ℕ
data_aligns = 32 ∷ 16 ∷ 8 ∷ 4 ∷ 2 ∷ []

abbrev pub least_align : ℕ
least_align = 1

-- the alignment of data that ask for none: 32, halved while it is greater than the size, and not below 1
unfoldable pub data_align : ℕ → ℕ
data_align size = unwrap_or (find (λ align. nat_le align size) data_aligns) least_align

unfoldable pub alignment_of : KeptSymbol → ℕ
alignment_of s =
    if s.align == 0 then (if is_in text s then text_align else data_align s.size) else s.align

unfoldable pub room_of : KeptSymbol → ℕ
room_of s = if is_in text s then max least_room s.size else s.size

abbrev pub box_of : KeptSymbol → Box
box_of s = record { align = alignment_of s; room = room_of s }

-- the boxes of a section's symbols, in the order of the list
unfoldable pub boxes_in : ℕ → List KeptSymbol → List Box
boxes_in n symbols = map box_of (filter (is_in n) symbols)

-- a symbol's name with the zero byte that ends it; none where the symbol has no name
unfoldable pub name_room : KeptSymbol → ℕ
name_room s = if s.name_len == 0 then 0 else s.name_len + 1

-- the names of all symbols, with the zero byte that ends each
unfoldable pub names_room : List KeptSymbol → ℕ
names_room symbols = sum_by name_room symbols
